pub mod Sources
pub mod Files
pub mod Texts
pub mod WorkedDecks
pub mod LiftRows
pub mod LimitRows
