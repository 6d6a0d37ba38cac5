-- the number of which one bit is set
mod Powers
-- the lines in turn
mod Looking
-- the tests before a line enters
mod Room
