-- What the engine goes by, and what it is filled with.
pub mod Arrays
pub mod Holds
pub mod Marked
