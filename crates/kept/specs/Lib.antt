-- What the code remembers of a pass: pairs of a set of labels and the union, or the meet, over it.
pub mod Pairs
pub mod Promise
