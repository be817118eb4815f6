pub mod ProgramLaws
pub mod OneLaws
pub mod LookupLaws
pub mod FileLaws
pub mod ControllerLaws
pub mod EmptyLaws
pub mod LoadingLaws
