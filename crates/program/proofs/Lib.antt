-- What the definitions say of small files, computed from their bytes.
pub mod File
pub mod Statements
pub mod Guests
pub mod Names
pub mod Held
