pub mod WordLaws
pub mod LineLaws
pub mod CheckLaws
pub mod DoubleLaws
pub mod NamedLaws
pub mod FewLaws
pub mod PrintLaws
pub mod LoopLaws
