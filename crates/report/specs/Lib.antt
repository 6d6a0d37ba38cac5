-- The bench program's text.
pub mod Text
-- How long a text can be, from its parts.
pub mod Sizes
-- What a call answers and leaves in the lent buffer.
pub mod Printing
-- What follows from these; none of it has to be believed.
pub mod Laws
