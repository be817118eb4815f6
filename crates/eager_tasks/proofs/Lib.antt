pub mod FirstTask
