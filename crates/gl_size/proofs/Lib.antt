pub mod ChainLaws
pub mod CountLaws
