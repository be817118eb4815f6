pub mod Asking
pub mod Rounds
pub mod Blame
pub mod Laws
pub mod Load
pub mod Order
pub mod Open
