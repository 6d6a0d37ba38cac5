-- Theorems that an edit of a definition is refused by.
-- the one answer as a computation
pub mod Computed
