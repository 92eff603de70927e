-- A return at top level says nothing: how the file is read (Read) and what is found of the record in it (Found), what is left of its statements (Bare), the
-- rules (Told), the machine (Start, Run), and all together (Silent).
pub mod Read
pub mod Found
pub mod Bare
pub mod Told
pub mod Start
pub mod Run
pub mod Silent
