-- Laws that other crates cite. Assumes nothing.
pub mod Tables
pub mod Finished
pub mod Solving
pub mod Counted
pub mod Rows
