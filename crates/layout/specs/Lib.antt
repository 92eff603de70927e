-- The table of record kinds, which bytes are keys, and how the code names kinds and classes.
pub mod Layout
pub mod Key
pub mod Kinds
