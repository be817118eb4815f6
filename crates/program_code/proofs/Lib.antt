pub mod GroupLaws
pub mod SeenLaws
pub mod ContentLaws
pub mod PathLaws
pub mod RowLaws
