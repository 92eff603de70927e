-- What solving promises.
pub mod Solved
