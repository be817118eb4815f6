pub mod CodeLaws
pub mod MethodLaws
