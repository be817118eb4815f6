pub mod OrderLaws
pub mod MemberLaws
pub mod ReachLaws
pub mod FileLaws
pub mod ChildLaws
pub mod RowLaws
pub mod TableLaws
pub mod SiteLaws
