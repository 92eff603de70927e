-- What demand 3 says of a program and a table; what it means that a table describes a state, and that a state is well founded.
pub mod Confined
pub mod Described
pub mod Founded
