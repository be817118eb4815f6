pub mod Names
pub mod FirstForm
pub mod Methods
pub mod Printed
pub mod FirstReply
pub mod Readings
