-- One use of the rules that look something up.
pub mod Passing
