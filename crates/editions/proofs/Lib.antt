pub mod Widened
pub mod Read
pub mod Ruled
pub mod Carried
pub mod Counted
pub mod Same
