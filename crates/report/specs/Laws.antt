-- How long a text is, and that a buffer for the longest is never too short.
pub mod Size
-- No second answer.
pub mod Only
-- Document 01's sample, byte by byte.
pub mod Sample
