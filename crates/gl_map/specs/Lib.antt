pub mod Refusals
pub mod Rows
pub mod Checks
pub mod Texts
