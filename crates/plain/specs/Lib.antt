-- picks, joined tests, decided facts
pub mod Choice
-- what an answer says: a refusal's number, or what is given
pub mod Answer
-- numbers, then zeros
pub mod Zeros
-- a fact about each element of a list
pub mod All
pub mod Laws
