pub mod EagerOrder
pub mod Placed
