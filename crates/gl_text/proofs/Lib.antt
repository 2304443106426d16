pub mod Names
pub mod Trims
pub mod CallCardLaws
pub mod CardLaws
pub mod LevelLaws
pub mod TailLaws
