-- Laws that other crates cite. Assumes nothing.
pub mod Copies
pub mod Lowest
pub mod Gap
