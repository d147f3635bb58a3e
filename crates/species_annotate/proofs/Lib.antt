pub mod FoldLaws
mod HeadLemmas
mod MadeLemmas
mod NameLemmas
mod SourceLemmas
mod UnitLemmas
mod WalkLemmas
