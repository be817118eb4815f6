pub mod Reading
pub mod LinkState
pub mod PortAns
pub mod PortState
pub mod CloserState
