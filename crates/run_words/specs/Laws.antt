-- an instruction on the parameter cells, group by group
pub mod OnCells
pub mod Shuffles
pub mod Pushes
pub mod Goings
pub mod Arithmetic
-- what stands at an address, by the entry of its first byte
pub mod Fetching
pub mod OneByte
pub mod Unknown
-- where an access within the shared bytes lies, and what a store writes
pub mod Places
pub mod Written
pub mod Lent
pub mod Losses
-- tests of the code as the definition's own
pub mod Rules
-- what an answer means for the step, and what it tells of the pointers
pub mod Answered
pub mod Rooms
pub mod Drops
pub mod CutOff
-- elements by their places, and levels in rows
pub mod Tabled
pub mod Levels
pub mod Filled
pub mod Parking
pub mod Parted
-- the cells in view
pub mod Seen
-- a whole machine in rows, and four of them
pub mod Again
pub mod Tasked
-- the loop: where it stands, a round, and the arms of a round
pub mod Loop
pub mod Calms
pub mod Rounds
pub mod Arms
-- a line that enters, and the run that lines may enter
pub mod Entering
pub mod Serving
-- the door
pub mod Entry
-- a run of tasks: machines and kept numbers as tasks, and the loop of turns
pub mod Pairs
pub mod Closings
pub mod Turning
pub mod Lining
pub mod Seated
