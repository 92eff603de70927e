-- What it changes that guests are held to a class of names: the records around the one (Records), how both files are read (Read) and what is found of the
-- record in them (Found), the two guests (Guest), the rules (Told), the machine (Run), both files beside each other (Beside), and all together (Profiles).
pub mod Records
pub mod Read
pub mod Found
pub mod Guest
pub mod Told
pub mod Run
pub mod Beside
pub mod Profiles
