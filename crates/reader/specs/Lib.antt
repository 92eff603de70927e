-- How what the code reads stands for a reading of the crate format.
pub mod Outcome
