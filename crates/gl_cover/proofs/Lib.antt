pub mod Finding
pub mod Going
pub mod Picking
pub mod Shared
pub mod OneMore
pub mod Gone
pub mod OneChoice
pub mod Apart
