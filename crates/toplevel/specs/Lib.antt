-- A return at top level says nothing.
pub mod Silent
