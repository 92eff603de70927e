-- What clearing a table means.
pub mod Cleared
