pub mod Plain
pub mod Searching
pub mod Replacing
pub mod Marks
pub mod Reached
pub mod Shown
