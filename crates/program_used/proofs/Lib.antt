pub mod ConstantLaws
pub mod RowLaws
