-- The handset machine: its states, its lookups, its variables, its objects, its calls, its steps and its start; and its laws (Laws) with what they speak
-- of (Grown to Begun), which nobody has to believe.
pub mod State
pub mod Lookup
pub mod Variable
pub mod Property
pub mod Call
pub mod Step
pub mod Start
pub mod Grown
pub mod Seen
pub mod Effect
pub mod Begun
pub mod Laws
