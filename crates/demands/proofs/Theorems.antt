-- demand 1: every run ends with an answer of the list, and whatever is refused has altered nothing
pub mod One
-- demand 2: a run is its instructions one after another, counted as they should be
pub mod Two
-- demand 3: after a CATCH the machine comes back, unless by RESETSP
pub mod Three
-- demands 1 and 2 said of images
pub mod Images
-- a state that a run hands back, its answer not 2, is taken by the next
pub mod Handed
-- any number of runs is one history, and demand 3 holds over it
pub mod Sessions
-- demand 3 for hosts that hold a machine as bytes
pub mod Calls
-- the memory sum, from the reader on
pub mod Summed
-- a CATCH that nothing refuses is carried out
pub mod Carried
-- demand 3 on three starred cases, and by an RTI
pub mod Cases
-- demand 3 over two runs with the host between
pub mod Worked
-- nothing else touches the flag
pub mod Flag
-- a machine notes the last THROW of non-zero, and nothing else
pub mod Thrown
-- interrupt lines: one routine at a time, the lowest first, each request once, and nothing where none may enter
pub mod Lines
-- sums and differences of double length
pub mod Double
-- what they say of a sample
pub mod Counted
-- P after a step by the table alone
pub mod Depth
-- no second answer
pub mod Only
