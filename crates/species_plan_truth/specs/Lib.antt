pub mod Meetings
pub mod Said
pub mod Truth
