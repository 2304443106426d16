pub mod ReadCards
pub mod PrintedLines
pub mod ReadDecks
pub mod FlatDecks
