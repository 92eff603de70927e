-- The outcomes of verdict and check, and the lists of what they refuse. Assumes nothing.
pub mod Verdict
pub mod Check
pub mod Lists
