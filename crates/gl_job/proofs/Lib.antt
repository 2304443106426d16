pub mod Fronts
pub mod Same
pub mod Outputs
pub mod Laws
pub mod Points
pub mod Signs
