pub mod Causes
pub mod KnownLibraries
pub mod Limited
pub mod Outlines
pub mod Samples
pub mod Settled
pub mod Skips
pub mod Texts
