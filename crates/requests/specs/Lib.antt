-- which line enters, and what raising one leaves
pub mod Requests
-- nothing below has to be believed
pub mod Laws
