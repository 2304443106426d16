pub mod Giving
pub mod Handling
pub mod Opening
pub mod Pieces
pub mod Resting
pub mod Seating
pub mod Staying
pub mod Taking
