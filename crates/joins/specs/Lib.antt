-- One use of the rules that are a few joins.
pub mod Mutual
