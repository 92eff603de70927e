-- What the search between whole passes may do.
pub mod Steps
