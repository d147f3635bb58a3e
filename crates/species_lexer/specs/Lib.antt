-- The definitions that contracts cite.
pub mod Offset
pub mod Seen
pub mod Parts
pub mod Forms
pub mod Pieces
pub mod Cursor
pub mod Tokens
pub mod Found
pub mod Entries
pub mod Fed
pub mod Cut
pub mod SeenCut
