pub mod Use
pub mod Rows
pub mod Unions
pub mod Spreads
