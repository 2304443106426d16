pub mod Keys
pub mod Sources
pub mod Numbered
pub mod Tables
pub mod Samples
pub mod Kept
pub mod Texts
