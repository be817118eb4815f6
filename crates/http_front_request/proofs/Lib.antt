pub mod Once
pub mod Routes
