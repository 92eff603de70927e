-- The rules of document 01 over a program, the least table and the verdict.
pub mod Rules
pub mod Verdict
