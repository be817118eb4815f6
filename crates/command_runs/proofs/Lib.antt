pub mod Words
pub mod Ends
pub mod Written
pub mod Statuses
