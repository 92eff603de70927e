-- The word of an outcome, and the numbers of refusals. Assumes nothing.
pub mod Word
pub mod Examples
pub mod Numbers
