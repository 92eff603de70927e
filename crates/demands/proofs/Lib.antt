pub mod Demands
pub mod Editions
