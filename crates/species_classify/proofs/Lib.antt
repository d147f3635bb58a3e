mod DepthLemmas
mod ReasonLemmas
mod LocalLemmas
mod FrontLemmas
pub mod AskedLaws
mod FormLemmas
mod SoundLemmas
mod StandLemmas
mod BandLemmas
pub mod PlaceLaws
mod BoundLemmas
mod CountLemmas
mod MergeLemmas
mod DecisionLemmas
mod ArcLemmas
