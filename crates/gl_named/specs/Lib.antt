pub mod Firsts
pub mod Walks
pub mod Plans
pub mod Kept
pub mod Named
