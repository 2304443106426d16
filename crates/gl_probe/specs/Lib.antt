pub mod Keys
pub mod Probes
pub mod Shown
pub mod Rows
