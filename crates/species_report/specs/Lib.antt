pub mod Table
pub mod Heads
pub mod Lines
