pub mod TableLaws
pub mod SaidLaws
pub mod StandLaws
pub mod ResolvedLaws
pub mod AskLaws
