pub mod Answer
pub mod Commands
pub mod Refusals
pub mod Statuses
pub mod Texts
