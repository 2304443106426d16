pub mod FaultLaws
pub mod KindLaws
pub mod LetterLaws
pub mod NamedLaws
pub mod PartLaws
pub mod PrintLaws
pub mod ReadLaws
pub mod TailBounds
