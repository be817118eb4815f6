pub mod Resolve
