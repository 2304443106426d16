pub mod Keys
pub mod Lines
pub mod Variants
pub mod Texts
