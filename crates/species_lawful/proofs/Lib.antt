mod FitLemmas
mod ReadLemmas
mod MadeLemmas
mod ChangeLemmas
mod StatementLemmas
mod ArrayLemmas
mod OnceLemmas
pub mod RawLaws
pub mod TwoWalks
pub mod WalkLaws
pub mod LawfulLaws
