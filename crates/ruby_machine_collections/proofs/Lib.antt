mod Merging
mod TextParts
