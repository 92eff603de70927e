-- Runs computed from files' bytes: what the machine does, and what it must not do (Refrains). Run says how one is written down.
pub mod Run
pub mod Start
pub mod Frames
pub mod Objects
pub mod Calls
pub mod Constructors
pub mod Prims
pub mod Throws
pub mod Guest
pub mod Refrains
pub mod Held
