-- the sections of a file, and which bytes spell an image
pub mod Format
-- which clause of the format a bad file fails first, and where
pub mod Judging
-- what the reader answers and leaves in memory
pub mod Loading
-- nothing below has to be believed
pub mod Laws
