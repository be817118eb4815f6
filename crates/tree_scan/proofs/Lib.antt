pub mod PathLaws
pub mod RootLaws
pub mod SpellLaws
pub mod ListLaws
pub mod ScanLaws
