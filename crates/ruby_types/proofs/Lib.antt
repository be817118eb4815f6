mod PairingLaws
mod PrefixLaws
pub mod SameLaws
mod SizeLaws
