pub mod WordLaws
pub mod PathLaws
pub mod MatchLaws
pub mod ReadLaws
pub mod PlaceLaws
pub mod MemberLaws
pub mod IndexLaws
