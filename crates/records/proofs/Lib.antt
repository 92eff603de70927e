-- Laws of the ranges of bytes, of walking over the records of a file and of their rules. Assumes nothing.
pub mod Ranges
pub mod Walks
pub mod Rules
