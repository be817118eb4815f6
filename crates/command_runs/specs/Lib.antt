pub mod Asked
pub mod Output
