pub mod Faults
pub mod Refusals
pub mod Sited
pub mod Stamps
