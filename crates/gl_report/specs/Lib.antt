pub mod Naming
pub mod Pieces
pub mod Marks
