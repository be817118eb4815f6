pub mod Steps
pub mod SimpleLaws
pub mod ConditionLaws
pub mod BlockLaws
pub mod StatementLaws
