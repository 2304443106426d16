pub mod Lifting
pub mod Written
pub mod Counted
pub mod LiftedRuns
pub mod FlatParts
pub mod Liftable
pub mod Refusals
