pub mod ArrowLaws
