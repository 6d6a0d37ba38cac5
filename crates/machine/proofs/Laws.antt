-- no two refusals have one number
pub mod Refusing
-- how many bytes an instruction has
pub mod Lengths
-- what bars some bytes
pub mod Bars
-- a table's rule at all of its entries
pub mod Tables
-- what a step that is carried out tells: no test held, and its row was put
pub mod Passed
-- how a run begins: what is declined, a spent budget, the first instruction
pub mod Steps
-- what every completed instruction keeps, a run keeps
pub mod Along
-- clock cycles: from 1 to 42 for each instruction
pub mod Costs
-- what an instruction takes, by its code
pub mod Prices
-- code 3E is PAUSE
pub mod Pausing
-- the instructions on the linked stacks and the arithmetic on two cells stand at one code each
pub mod Marks
-- cells as bytes
pub mod CellBytes
-- what every row keeps, kind by kind
pub mod Told
-- what a row puts is what the table says
pub mod Puts
-- the tests let through only actions that the linked stacks allow
pub mod Granted
-- a line that enters: what it finds, and what it leaves
pub mod Lines
-- a step keeps a well-formed state well formed
pub mod Kept
-- RTI alone releases the block
pub mod Releases
-- a bit is cleared, and no other changes
pub mod Served
-- a host raises a line
pub mod Raised
-- which line enters, and what it leaves
pub mod Entered
-- what a run accepts, part by part
pub mod Accepted
-- a step is one action on the linked stacks, and an allowed one
pub mod Acts
-- readings that document 01 rules out
pub mod Readings
-- everything but a THROW of non-zero keeps what was noted last
pub mod Noted
-- the starred lines of the bench sheet
pub mod Starred
-- a step and a run keep what a machine and a memory that exist can hold
pub mod Carries
-- whole cells at their addresses, and their bytes
pub mod Exact
-- a machine as an image starts it exists
pub mod Started
-- from what cannot be, anything
pub mod Clash
-- what is not barred may be touched
pub mod Unbarred
-- the numbers with which an instruction is refused
pub mod Refusals
-- a run that starts with counts
pub mod Counted
-- a run goes on after a turn
pub mod Onward
-- the tasks after a turn, and what one turn leaves
pub mod After
pub mod Turns
-- the next ready task
pub mod Circular
-- what a run of tasks takes, part by part
pub mod TasksTaken
-- machines and kept numbers, as tasks
pub mod Pairs
-- no second answer of a run of tasks
pub mod OnlyTasks
-- a memory of bytes stays one
pub mod StillBytes
-- the memory sum: stores, runs one after another, the greatest
pub mod Sum
-- a run with a sum
pub mod Summed
