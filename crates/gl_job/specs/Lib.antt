pub mod Texts
pub mod Runs
pub mod Courses
pub mod Claims
pub mod Outputs
pub mod Points
