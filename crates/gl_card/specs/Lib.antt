pub mod Letters
pub mod Named
pub mod Kinds
pub mod Reading
pub mod EqualSigns
pub mod Lines
