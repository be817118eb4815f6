-- The file at the place of a path is the first one with this path.
use Rattle.std.proofs.Common.{◌≡◌, ℕ, zero, suc, Bool, true, false, cond, List, [], ◌∷◌, Option, Some, None, find}
use Rattle.std.proofs.Common.{slice_get, inl, inr, refl, sym, ap, ◌∙◌, subst}
use Rattle.std.specs.Prelude.{bytes_eq}
use Rattle.std.specs.Cmp.Lexicographic.{bytes_decides}
use Rattle.std.specs.Ordering.{is_eq}
use Rattle.std.proofs.lemmas.Bool.{false_from_ne_true}
use Rattle.std.proofs.lemmas.Map.Text.{is_eq-slice_cmp}
use Rattle.std.proofs.lemmas.Option.{none-some, same_Some}
use Rattle.outside.specs.Order.{IsBefore, Rising}
use Rattle.outside.specs.Table.{HasPath}
use Rattle.outside.specs.Tree.{paths_of}
use Rattle.outside.specs.declared.files.FileEntry.{FileEntry}
use Rattle.tree_scan_sites.proofs.MemberLaws.{Each, In, Rises, rises_from_AllPairs, Contains-from_in}

earlier_differs : (a b : List ℕ) → IsBefore a b → bytes_eq a b ≡ false
earlier_differs a b before = sym (is_eq-slice_cmp a b) ∙ ap is_eq before

each_at : (P : List ℕ → Type 0) (xs : List (List ℕ)) (i : ℕ) (x : List ℕ) → Each P xs → slice_get xs i ≡ Some x → P x
each_at P [] i x each at = absurd (none-some x at)
each_at P (y ∷ xs) zero x each at = subst P (same_Some y x at) each.0
each_at P (y ∷ xs) (suc i) x each at = each_at P xs i x each.1 at

first_at : (f : FileEntry) (later : Option FileEntry) (b : Bool) → b ≡ true → Some f ≡ cond b (Some f) later
first_at f later true is = refl
first_at f later false is = absurd (cc)

later_at : (f : FileEntry) (later : Option FileEntry) (b : Bool) → b ≡ false → later ≡ cond b (Some f) later
later_at f later true is = absurd (cc)
later_at f later false is = refl

found_rising : (files : List FileEntry) (path : List ℕ) (i : ℕ) → Rises IsBefore (paths_of files) →
    slice_get (paths_of files) i ≡ Some path → slice_get files i ≡ find (λ f. bytes_eq f.path path) files
found_rising [] path i rise at = absurd (none-some path at)
found_rising (f ∷ files) path zero rise at = first_at f (find (λ g. bytes_eq g.path path) files)
    (bytes_eq f.path path) ((bytes_decides f.path path).1 (same_Some f.path path at))
found_rising (f ∷ files) path (suc i) rise at =
    found_rising files path i rise.1 at
    ∙ later_at f (find (λ g. bytes_eq g.path path) files) (bytes_eq f.path path)
    (earlier_differs f.path path (each_at (IsBefore f.path) (paths_of files) i path rise.0 at))

-- where files rise by their paths, the one at the place of a path is the one with this path
pub file_is_found : (files : List FileEntry) (path : List ℕ) (i : ℕ) → Rising (paths_of files) →
    slice_get (paths_of files) i ≡ Some path → slice_get files i ≡ find (λ f. bytes_eq f.path path) files
file_is_found files path i rise at = found_rising files path i (rises_from_AllPairs IsBefore (paths_of files) rise) at

none_in : (files : List FileEntry) (path : List ℕ) → (In path (paths_of files) → ⊥) →
    find (λ f. bytes_eq f.path path) files ≡ None
none_in [] path none = refl
none_in (f ∷ files) path none =
    sym (later_at f (find (λ g. bytes_eq g.path path) files) (bytes_eq f.path path)
    (false_from_ne_true (bytes_eq f.path path) (λ e. none (inl ((bytes_decides f.path path).0 e)))))
    ∙ none_in files path (λ m. none (inr m))

-- where no file has a path, none is found
pub none_is_found : (files : List FileEntry) (path : List ℕ) → (HasPath files path → ⊥) →
    find (λ f. bytes_eq f.path path) files ≡ None
none_is_found files path none = none_in files path (λ m. none (Contains-from_in path (paths_of files) m))
