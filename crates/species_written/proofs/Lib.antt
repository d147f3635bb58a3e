mod DepthLemmas
mod TokenLemmas
mod NameLemmas
mod CountLemmas
mod StatementLemmas
mod MarkLemmas
mod UnitLemmas
pub mod WrittenLaws
