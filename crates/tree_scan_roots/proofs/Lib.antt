pub mod DirectoryLaws
pub mod KeyLaws
pub mod RootLaws
pub mod AboveLaws
pub mod FaultLaws
