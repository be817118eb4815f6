-- Rows of files, one more at a time.
use Rattle.std.proofs.Common.{◌≡◌, ℕ, zero, suc, List, [], ◌∷◌, ◌++◌, Option, Some, None, slice_get, take, ap, sym}
use Rattle.std.proofs.Common.{subst}
use Rattle.std.proofs.Common.{◌∙◌}
use Rattle.std.proofs.lemmas.Option.{none-some, same_Some}
use Rattle.outside.specs.declared.files.FileEntry.{FileEntry}
use Rattle.program_used.specs.Rows.{used_at, all_used}
use Rattle.program_used.specs.declared.used.UsedText.{UsedText}

-- one more file is one more as it is used
pub used_more : (fs : List FileEntry) (rs : List (Option UsedText)) (i : ℕ) (f : FileEntry) (r : Option UsedText) →
    slice_get fs i ≡ Some f → slice_get rs i ≡ Some r →
    all_used (take (suc i) fs) (take (suc i) rs) ≡ all_used (take i fs) (take i rs) ++ used_at f r ∷ []
used_more [] rs i f r at there = absurd (none-some f at)
used_more (g ∷ gs) [] i f r at there = absurd (none-some r there)
used_more (g ∷ gs) (s ∷ ss) zero f r at there =
    ap (λ x. x ∷ []) (ap (λ x. used_at x s) (same_Some g f at) ∙ ap (λ x. used_at f x) (same_Some s r there))
used_more (g ∷ gs) (s ∷ ss) (suc i) f r at there =
    ap (λ xs. used_at g s ∷ xs) (used_more gs ss i f r at there)
