-- What the index promises.
pub mod Begins
