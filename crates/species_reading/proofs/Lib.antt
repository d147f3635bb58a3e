mod AnswerLemmas
mod ReadLemmas
mod InputLemmas
