pub mod OnceLaws
pub mod TextLaws
pub mod TypeLaws
pub mod KeepLaws
pub mod StemLaws
pub mod TriedLaws
