-- One pass over the rules of a file.
pub mod Order
