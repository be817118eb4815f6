-- Bytes below 128 in texts that are UTF-8.
use Rattle.std.proofs.Common.{ℕ, ◌<◌, List, [], ◌∷◌, IsUtf8}
use Rattle.std.proofs.lemmas.Str.{IsUtf8-append, IsUtf8-from_ascii}
use Rattle.std.proofs.lemmas.Str.Ascii.{IsAscii-nil, IsAscii-cons}

-- One byte below 128 is UTF-8.
pub utf8_byte : (b : ℕ) → b < 128 → IsUtf8 (b ∷ [])
utf8_byte b h = IsUtf8-from_ascii (b ∷ []) (IsAscii-cons b [] h IsAscii-nil)

-- UTF-8 stays so behind one more byte below 128.
pub utf8_cons : (b : ℕ) (bs : List ℕ) → b < 128 → IsUtf8 bs → IsUtf8 (b ∷ bs)
utf8_cons b bs h u = IsUtf8-append (b ∷ []) bs (utf8_byte b h) u
