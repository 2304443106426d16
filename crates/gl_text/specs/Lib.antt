pub mod LogicalLines
pub mod Cards
pub mod Decks
pub mod Flattening
pub mod PlainFlats
pub mod WayBack
pub mod Levels
pub mod CellCards
