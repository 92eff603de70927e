-- What it changes that guests are held to a class of names.
pub mod Profiles
