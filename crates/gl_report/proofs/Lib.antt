pub mod PartLaws
pub mod LineLaws
pub mod ListLaws
pub mod ShownLaws
