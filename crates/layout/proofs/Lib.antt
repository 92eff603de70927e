-- What the table of kinds holds; which bytes are keys.
pub mod Table
pub mod Keys
