mod HeadLemmas
mod PartLemmas
