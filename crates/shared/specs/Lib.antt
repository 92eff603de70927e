-- One use by code that remembers, and what it looks up and spreads.
pub mod Apply
