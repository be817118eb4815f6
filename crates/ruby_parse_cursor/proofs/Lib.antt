mod Magnitude
mod Codes
mod Suffix
pub mod KeyLaws
pub mod CodeLaws
mod Fitting
mod AssignLaws
