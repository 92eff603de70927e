-- What the declarations say to the rules, laid out for the engine.
pub mod Lays
