mod WithinLemmas
mod ListLemmas
pub mod CoverLaws
mod FoundLemmas
mod DimLemmas
