-- Laws of the index.
pub mod Bits
