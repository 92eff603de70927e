-- The machine held up from below, and what other crates use of it: runs computed from files' bytes, and the laws of specs/Laws.antt, proved.
pub mod Runs
pub mod Laws
