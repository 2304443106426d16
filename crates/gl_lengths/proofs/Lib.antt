pub mod Permuted
pub mod Frames
pub mod Limits
