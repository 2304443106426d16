pub mod Pieces
pub mod Reading
pub mod Commands
pub mod Jobs
pub mod Names
pub mod Topics
