-- tests one after another
mod Testing
