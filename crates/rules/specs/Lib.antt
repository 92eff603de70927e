-- Rules as data, and the least table that they leave as it is. Assumes nothing.
pub mod Table
pub mod Rule
pub mod Told
pub mod Round
pub mod Gap
pub mod Premises
