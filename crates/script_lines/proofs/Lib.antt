mod Splitting
pub mod Grammar
