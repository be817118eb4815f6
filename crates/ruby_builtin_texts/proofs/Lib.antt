mod CharacterLaws
mod NumeralLaws
mod PartLaws
mod SearchLaws
mod SizeLaws
