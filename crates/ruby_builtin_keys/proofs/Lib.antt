mod DigestLaws
mod PlaceLaws
