pub mod FirstLaws
pub mod AnswerLaws
pub mod PairLaws
