mod ListLemmas
mod ScanLemmas
mod CutLemmas
mod LineLemmas
mod SpeciesLemmas
mod TokenLemmas
mod WordLemmas
mod NumberLemmas
mod ApartLemmas
mod ExpressionLemmas
mod GivesLemmas
mod StatementLemmas
mod DeclarationLemmas
mod BranchLemmas
mod LoopLemmas
mod UnitLemmas
mod EndLemmas
mod DirectiveLemmas
mod MarkLemmas
mod ParallelLemmas
mod SpeltLemmas
pub mod ReadBackLaws
mod HeaderLemmas
mod LawfulLemmas
mod ScopeLemmas
mod KeptLemmas
mod KeptLoopLemmas
mod LawfulStatementLemmas
mod LawfulUnitLemmas
mod LawfulTokenLemmas
pub mod LawfulLaws
mod StrippedLemmas
mod AlikeLemmas
pub mod MarkedLaws
mod ReadBackExamples
pub mod TextLaws
