pub mod KnownLaws
mod NameLaws
mod PlacedLaws
mod RankLaws
mod ReadRanks
mod SaidLaws
mod SizeLaws
