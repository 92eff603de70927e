-- Where the records of a readable file begin, and what each says.
pub mod Range
pub mod Walk
pub mod Step
pub mod Parts
pub mod Say
