-- What the check's two tables hold.
pub mod Copies
