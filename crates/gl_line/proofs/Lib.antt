pub mod FirstLine
pub mod Groups
pub mod RunLaws
pub mod Trims
