mod Pairs
pub mod KeysBelow
