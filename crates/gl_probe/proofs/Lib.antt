mod KeyLaws
mod LineLaws
mod LoopLaws
mod RoundLaws
