pub mod LimitLaws
pub mod ListingLaws
pub mod ConfigurationLaws
