pub mod TreeLaws
pub mod OneLaws
