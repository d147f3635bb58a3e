pub mod TableLaws
pub mod KeptLaws
pub mod JoinLaws
mod CountLaws
