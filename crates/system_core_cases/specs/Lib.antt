pub mod Letters
pub mod Equal
