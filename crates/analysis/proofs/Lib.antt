-- What holds of the rules of a readable file, and of their least table. Assumes nothing.
pub mod Examples
pub mod Stated
pub mod Proper
pub mod Returned
pub mod Fit
pub mod Alike
pub mod Naming
pub mod Least
pub mod Held
pub mod Traps
