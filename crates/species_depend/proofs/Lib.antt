mod LeastLemmas
mod SameLemmas
mod AlikeLemmas
mod PlaceLemmas
mod CoordinateLemmas
mod UnmetLemmas
pub mod DependenceLaws
