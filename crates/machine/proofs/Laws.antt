-- The laws of specs/Laws.antt: what a step can bring about, whatever the program, the state, the frame and the choice (Outward to Leaving); what does
-- nothing (Idle); what no step takes back (Grown); runs (Running); what stands at the start (Labels to Filling); some of them put together (Granted); and
-- which programs the machine sees alike (Alike).
pub mod Places
pub mod Changes
pub mod Grown
pub mod Outward
pub mod Reading
pub mod Writing
pub mod Sparing
pub mod Acting
pub mod Said
pub mod Making
pub mod Moving
pub mod Calling
pub mod Building
pub mod Leaving
pub mod Idle
pub mod Running
pub mod Grounded
pub mod Labels
pub mod Beginning
pub mod Filling
pub mod Granted
pub mod Alike
