-- What a program's parts owe each other.
use Rattle.std.proofs.Common.{◌≡◌, ℕ, suc, List, [], ◌∷◌, Option, Some, None, All}
use Rattle.std.proofs.Common.{get_or, slice_get, length, refl, ap, arith}
use Rattle.std.proofs.lemmas.Option.{slice_get-get_or}
use Rattle.outside.specs.declared.files.FileEntry.{FileEntry}
use Rattle.program_places.specs.Paths.{Path}
use Rattle.tree_scan_sites.specs.declared.spelled.Spelled.{Spelled}
use Rattle.program_texts.specs.Read.{IsNamed}
use Rattle.program_used.specs.Constants.{AreConstants}
use Rattle.program_used.specs.Rows.{AreUsed, all_used}
use Rattle.program_used.specs.declared.used.UsedText.{UsedText}

-- there are as many texts as constants
pub texts_length : (cs : List (Option Path)) (rs : List (Option UsedText)) → AreUsed cs rs → length rs ≡ length cs
texts_length [] [] h = refl
texts_length [] (r ∷ rs) h = absurd h
texts_length (c ∷ cs) [] h = absurd h
texts_length (c ∷ cs) (r ∷ rs) h = ap suc (texts_length cs rs h.1)

-- where none is used or not, there is no file
pub empty_used : (fs : List FileEntry) (rs : List (Option UsedText)) → length rs ≡ length fs → all_used fs rs ≡ [] →
    fs ≡ []
empty_used [] rs e h = refl
empty_used (f ∷ fs) [] e h = absurd (omega (arith, e))
empty_used (f ∷ fs) (r ∷ rs) e h = absurd (omega (arith, ap length h))

-- each constant has a name
pub named_all : (spelled : List Spelled) (size : ℕ) (cs : List (Option Path)) → AreConstants spelled size cs →
    All IsNamed cs
named_all spelled size cs h = λ k d lt. at k (get_or cs k d) (slice_get-get_or cs k d lt) where
  at : (k : ℕ) (o : Option Path) → slice_get cs k ≡ Some o → IsNamed o
  at k None e = tt
  at k (Some c) e = (h.each k (Some c) e).0
