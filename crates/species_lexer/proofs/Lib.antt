-- The lemmas that proofs cite.
pub mod PartLemmas
pub mod Walk
pub mod Plain
pub mod Streams
pub mod Answered
pub mod Searches
pub mod Stops
pub mod PieceLemmas
pub mod Runs
pub mod Digits
pub mod EntryLemmas
pub mod NameLemmas
pub mod Feeding
