pub mod Moves
pub mod From
pub mod Events
pub mod Acts
pub mod Rest
pub mod Leaves
pub mod Firsts
