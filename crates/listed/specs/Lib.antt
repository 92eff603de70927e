-- Files as bytes, with the verdict and count that the definitions give them. Assumes nothing.
pub mod Files
pub mod Listed
pub mod MoreFiles
pub mod More
pub mod OutsideFiles
pub mod Outside
pub mod TopReturnFiles
pub mod TopReturn
pub mod ProfileFiles
pub mod Profile
