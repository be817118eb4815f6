pub mod KeyLaws
pub mod SameTasks
pub mod TaskOrder
pub mod Texts
