pub mod Built
pub mod FitCells
pub mod Faults
pub mod Kept
pub mod TurnSteps
