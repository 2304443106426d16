pub mod FirstLaws
pub mod SetLaws
pub mod RowLaws
pub mod WalkLaws
pub mod CountLaws
