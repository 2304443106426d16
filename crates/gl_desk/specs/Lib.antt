pub mod Desk
pub mod Places
pub mod Calls
pub mod Seats
pub mod MemoryDesk
pub mod Handles
pub mod RealDesk
