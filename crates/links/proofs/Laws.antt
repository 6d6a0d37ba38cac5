-- what the test `linked` says, part by part
pub mod Sound
-- copies that rise strictly, copies within a limit
pub mod Rising
-- what one element of a list holds after a store
pub mod Copies
-- the test by which a level is dropped
pub mod Tests
-- every action that is not refused keeps the links sound
pub mod Kept
-- what stands while a CATCH's exception level does, and what ends it
pub mod Stands
-- dropping levels leaves it standing or restores the links
pub mod Dropped
-- a CATCH makes it stand, and one more action leaves it standing or takes it away
pub mod Standing
-- dropping a level moves only its pointer
pub mod Contents
-- what a call and a CATCH make, field by field
pub mod Called
-- an action leaves links that fit
pub mod Carries
-- fresh links are sound
pub mod Fresh
-- no second answer
pub mod Only
