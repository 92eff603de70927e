-- What two editions say of a file that both read.
pub mod Same
