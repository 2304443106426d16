pub mod StandingLaws
pub mod NamesLaws
