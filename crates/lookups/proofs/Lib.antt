pub mod Through
pub mod Properties
pub mod Calls
pub mod Conversions
