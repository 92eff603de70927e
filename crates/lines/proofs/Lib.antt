-- Laws of the rules that belong to no record. Assumes nothing.
pub mod Lines
