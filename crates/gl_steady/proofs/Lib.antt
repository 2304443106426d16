pub mod AtTop
pub mod TopDevices
pub mod TopNames
pub mod TopChoices
pub mod AgainLaws
