-- What holds of verdict and check: they refuse what document 01 lists, and demand 3's sentences about them. Assumes nothing.
pub mod Cleaned
pub mod Accept
pub mod Judged
pub mod Lists
pub mod Demand
pub mod Left
pub mod Ranged
pub mod Words
