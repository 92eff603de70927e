-- Laws that other crates cite. Assumes nothing.
pub mod Pairs
pub mod Slots
pub mod Remembers
pub mod Tellings
pub mod Spreads
