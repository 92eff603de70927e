-- What a statement file is and what reading it gives: the declaration sheet, the fields, the records, the file, and what is refused of it.
pub mod Sheet
pub mod Fields
pub mod Records
pub mod Reading
pub mod Refusals
