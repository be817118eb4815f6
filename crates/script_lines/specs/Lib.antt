pub mod Content
pub mod Lines
pub mod Reading
pub mod Grammar
