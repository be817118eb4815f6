pub mod SiteLaws
pub mod InnerLaws
