pub mod Naming
pub mod Seen
pub mod Table
pub mod Kept
pub mod Refused
pub mod Noted
pub mod Inside
pub mod Counted
