pub mod ExprTexts
pub mod StmtTexts
pub mod UnitTexts
pub mod NamedLaws
