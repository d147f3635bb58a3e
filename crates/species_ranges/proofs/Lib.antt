pub mod OutermostLaws
pub mod KeepLaws
pub mod SmallLaws
pub mod BoundedLaws
mod RangeLemmas
pub mod MergeableLaws
