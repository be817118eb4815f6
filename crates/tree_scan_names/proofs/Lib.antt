pub mod CamelLaws
pub mod WithinLaws
pub mod CountLaws
pub mod SpellLaws
