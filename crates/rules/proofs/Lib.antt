-- The theory of rules as data: what another crate cites. Assumes nothing.
pub mod Labels
pub mod Table
pub mod Count
pub mod Told
pub mod Join
pub mod Round
pub mod Least
pub mod Derive
pub mod Gap
pub mod Alike
pub mod Premises
pub mod Beyond
