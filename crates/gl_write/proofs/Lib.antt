pub mod KeptLaws
pub mod VariantLaws
pub mod DeckLaws
pub mod PlaceLaws
pub mod LineLaws
pub mod EndLaws
pub mod NamingLaws
pub mod LongLaws
