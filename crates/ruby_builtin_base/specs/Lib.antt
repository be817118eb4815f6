pub mod Answers
pub mod Arguments
pub mod Characters
pub mod Costs
pub mod Printed
pub mod Results
pub mod Rows
