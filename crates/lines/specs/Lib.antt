-- The chain of a label, by its type.
pub mod Chain
