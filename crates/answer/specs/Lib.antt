-- The outcomes of the operations, the word that carries one, and the line that a program prints of it.
pub mod Outcome
pub mod Answer
pub mod Line
