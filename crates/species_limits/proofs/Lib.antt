mod ProductLaws
pub mod ArrayFindings
pub mod LoopFindings
mod WalkLaws
pub mod LimitLaws
