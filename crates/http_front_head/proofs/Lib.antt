pub mod HeadLaws
pub mod ManyLines
pub mod Members
pub mod Rows
pub mod Shapes
pub mod Surveys
pub mod Targets
