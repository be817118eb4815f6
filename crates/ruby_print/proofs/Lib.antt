pub mod Joins
pub mod ExpressionLaws
pub mod PendingLaws
pub mod BeginningLaws
pub mod StatementLaws
