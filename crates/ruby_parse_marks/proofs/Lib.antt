pub mod PathLaws
pub mod DeedLaws
pub mod NotedLaws
