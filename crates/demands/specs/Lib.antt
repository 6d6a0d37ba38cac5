-- what happens to a machine and its memory, one moment after another
pub mod History
-- interrupt lines in a history
pub mod Lines
-- the course of a run, and the reason why it ends
pub mod Course
-- which of several tests gives the answer
pub mod Lowest
-- demand 1: what a run of any input leaves
pub mod One
-- runs one after another
pub mod Sessions
-- calls of the exported run on the same bytes
pub mod Calls
-- the memory sum through any number of runs
pub mod Summed
-- the loss of what a CATCH pushed, and when a machine is back where it was before
pub mod Back
-- so many steps ahead
pub mod Walk
-- who touches the extend flag
pub mod Flag
-- the last THROW of a history
pub mod Thrown
-- sums and differences of double length
pub mod Double
-- a sample of them
pub mod Counted
-- three starred lines of the bench sheet, taken apart
pub mod Cases
-- an image for demand 3 over two runs
pub mod Worked
-- what the reader of images leaves
pub mod Images
