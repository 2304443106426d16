pub mod ZipLaws
pub mod FoundLaws
