-- Every table that the rules leave as it is describes every state that the machine reaches (Safe, by way of the modules before it); and every state
-- is well founded, so that lookups never run dry (Founded to Lookups).
pub mod Values
pub mod States
pub mod Setting
pub mod Variables
pub mod Properties
pub mod Calls
pub mod Steps
pub mod Start
pub mod StartLabels
pub mod Statements
pub mod Readable
pub mod Safe
pub mod Founded
pub mod FoundedSteps
pub mod FoundedRuns
pub mod FoundedStart
pub mod Lookups
