mod SeenLemmas
mod ReadLemmas
mod StatementLemmas
mod LevelLemmas
mod ExtentLemmas
mod DimensionLemmas
mod GroupLemmas
pub mod BoxLaws
pub mod TurnLaws
mod Examples
mod OneLemmas
