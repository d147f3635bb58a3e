mod LevelLemmas
pub mod ReadingLaws
pub mod BuildLaws
pub mod StayLaws
pub mod LoopLaws
pub mod GatherLaws
mod DeclaringLaws
mod WholeLaws
mod CountLemmas
mod LargeLemmas
pub mod AnswerLaws
