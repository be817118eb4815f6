pub mod OwnedLaws
