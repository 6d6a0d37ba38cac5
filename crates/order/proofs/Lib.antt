-- the tasks in circular order, as the code counts them
mod Asked
