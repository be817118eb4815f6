pub mod Division
pub mod IntRows
