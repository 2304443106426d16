pub mod Chains
pub mod Counts
pub mod Excesses
pub mod Tallies
