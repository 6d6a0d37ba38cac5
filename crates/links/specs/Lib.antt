-- how deep each stack may grow
pub mod Depths
-- the levels by number, their copies, and when links are well formed
pub mod Linked
-- what an action does to the links
pub mod Actions
-- when an action is not refused
pub mod Allowed
-- what a call and a CATCH make
pub mod Called
-- links whose every number is zero
pub mod Fresh
-- when links are what they were, and the actions that drop levels
pub mod Restored
-- what links that exist can hold
pub mod Fits
