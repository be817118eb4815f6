pub mod Exchanges
pub mod Rules
pub mod Heads
pub mod Ends
pub mod Going
pub mod Answers
