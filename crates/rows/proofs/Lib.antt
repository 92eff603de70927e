-- Laws of row numbers. Assumes nothing.
pub mod Number
pub mod Edition
pub mod Run
pub mod Examples
