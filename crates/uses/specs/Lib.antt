-- One use of a rule on the lent words; unions over the labels of a set; a set joined to many rows.
pub mod Use
pub mod Gather
pub mod Spread
