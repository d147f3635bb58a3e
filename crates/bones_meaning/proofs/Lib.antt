mod ActionsExample
pub mod CourseLaws
mod Elements
mod Law
mod Loops
mod NextLaws
pub mod StepLaws
mod Steps
