pub mod listed
pub mod shared
pub mod shared_list
