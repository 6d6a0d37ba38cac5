-- what a choice says of its parts
pub mod Choice
-- a fact about each element of a list
pub mod All
