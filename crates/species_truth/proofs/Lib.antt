mod ListLemmas
mod ConstantForms
pub mod NameLaws
mod PlainLaws
mod HeadLaws
pub mod WholeBoxes
mod FixedForms
mod ReadableLaws
mod SourceLaws
pub mod TruthLaws
