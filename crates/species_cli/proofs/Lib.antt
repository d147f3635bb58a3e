mod CommandLemmas
mod TextLemmas
pub mod TopLemmas
