-- What the operations promise, by the definitions of the crate verdicts.
pub mod Judgment
