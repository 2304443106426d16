pub mod Jobs
pub mod Endings
pub mod Claims
pub mod Restoring
pub mod WayBack
