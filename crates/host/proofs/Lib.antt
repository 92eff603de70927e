-- Laws of what functions hand back. Assumes nothing.
pub mod Returns
