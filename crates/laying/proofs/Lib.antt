-- Laws of what the arrays hold. Assumes nothing.
pub mod Words
pub mod Laid
pub mod Marks
pub mod Collected
pub mod Arrays
