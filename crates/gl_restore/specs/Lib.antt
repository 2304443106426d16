pub mod Refusals
pub mod Places
pub mod Backs
pub mod Texts
pub mod TooLong
