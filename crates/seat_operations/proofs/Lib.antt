pub mod Rows
pub mod Stages
pub mod Answering
pub mod Going
pub mod Moving
