-- The customer's three demands, as statements, and both editions.
pub mod Demands
pub mod Editions
