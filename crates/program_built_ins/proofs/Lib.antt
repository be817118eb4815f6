pub mod Lists
pub mod Arguments
pub mod Numbers
pub mod Texts
pub mod Arrays
pub mod Hashes
pub mod Common
pub mod Calls
