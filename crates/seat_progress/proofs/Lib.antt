pub mod Progress
