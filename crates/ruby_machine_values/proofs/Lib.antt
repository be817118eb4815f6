pub mod Beginning
mod Paying
mod SizeSums
