-- an array made by a closure of the place
pub mod Made
-- the lemmas on rows that the functions of linked.rt keep
pub mod Rows
