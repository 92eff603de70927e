-- The sheet of the code as a sheet of the definitions.
pub mod View
