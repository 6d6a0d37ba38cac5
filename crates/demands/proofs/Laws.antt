-- what any history keeps of a state that a run accepts
pub mod Histories
-- every run is a history of completed instructions
pub mod Course
-- what is counted over one history after another
pub mod Joined
-- a test at each element of a list
pub mod Every
-- the first test that holds has the lowest number
pub mod Lowest
-- alone no byte is another's, and past the end of memory there is no EXIT
pub mod Alone
-- a refusal's number
pub mod Refused
-- a step that no test refuses is carried out
pub mod Carried
-- restored links show the same cells
pub mod Views
-- the cell that a step leaves on top
pub mod Tops
-- while the exception level of a CATCH stands
pub mod Stood
-- the codes of the operations that move the flag
pub mod Flag
-- what two operations on cells leave
pub mod Double
-- what a good image fills
pub mod Filled
-- a run in which no line may enter
pub mod Unentered
-- histories by computation
pub mod Walks
-- histories by computation in which the flag stays
pub mod Resting
