pub mod Rest
pub mod Runs
pub mod Fields
pub mod Answers
pub mod Lines
pub mod Squeezing
pub mod Packing
