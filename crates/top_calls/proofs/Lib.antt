mod Commands
mod NotBuilt
mod Slashes
mod Outputs
