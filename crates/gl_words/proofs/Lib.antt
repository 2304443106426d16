pub mod Pieces
pub mod Parses
