pub mod Applied
pub mod Families
