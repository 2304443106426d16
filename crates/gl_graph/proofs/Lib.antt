pub mod Counts
pub mod Added
pub mod FaultLaws
pub mod PatternLaws
pub mod LongerTurns
pub mod DeadEnds
pub mod TurnMaking
