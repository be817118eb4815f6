pub mod Serving
pub mod Later
pub mod Turns
