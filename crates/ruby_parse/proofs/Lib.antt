pub mod Stopping
mod Back
