-- What the test of a field goes by.
pub mod Judging
