pub mod Every
pub mod Walked
pub mod Guests
pub mod Whole
