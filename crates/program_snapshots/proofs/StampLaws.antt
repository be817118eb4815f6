-- The test of stamps decides whether they are those of the files.
use Rattle.std.proofs.Common.{◌≡◌, ◌↔◌, ℕ, true, ◌&&◌, ◌==◌, List, [], ◌∷◌, bytes_eq, refl, ap, ◌∙◌}
use Rattle.std.specs.Cmp.Lexicographic.{bytes_decides}
use Rattle.std.proofs.lemmas.Bool.{false≢true, and_parts, and_from, eqb-true, eq-eqb}
use Rattle.outside.specs.declared.files.FileEntry.{FileEntry}
use Rattle.outside.specs.declared.files.Stamp.{Stamp}
use Rattle.outside.specs.Tree.{stamps_of}
use Rattle.program_snapshots.specs.Stamps.{same_stamp, same_stamps}

abbrev stamp_made : (length time : ℕ) → Stamp
stamp_made length time = record { length = length; time = time }

abbrev pair_made : List ℕ → Stamp → List ℕ × Stamp
pair_made path stamp = (path, stamp)

stamp_is : (s : List ℕ × Stamp) (f : FileEntry) → same_stamp s f ≡ true → s ≡ pair_made f.path f.stamp
stamp_is s f h =
    let p = and_parts (bytes_eq s.0 f.path) ((s.1.length == f.stamp.length) && (s.1.time == f.stamp.time)) h in
    let q = and_parts (s.1.length == f.stamp.length) (s.1.time == f.stamp.time) p.1 in
    let a : s.0 ≡ f.path = (bytes_decides s.0 f.path).0 p.0 in
    let b : s.1.length ≡ f.stamp.length = eqb-true s.1.length f.stamp.length q.0 in
    let c : s.1.time ≡ f.stamp.time = eqb-true s.1.time f.stamp.time q.1 in
    ap (λ (x : List ℕ). pair_made x s.1) a
    ∙ ap (pair_made f.path) (ap (λ n. stamp_made n s.1.time) b ∙ ap (stamp_made f.stamp.length) c)

stamp_itself : (f : FileEntry) → same_stamp (pair_made f.path f.stamp) f ≡ true
stamp_itself f = and_from (bytes_eq f.path f.path) ((f.stamp.length == f.stamp.length)
    && (f.stamp.time == f.stamp.time))
    ((bytes_decides f.path f.path).1 refl)
    (and_from (f.stamp.length == f.stamp.length) (f.stamp.time == f.stamp.time)
    (eq-eqb f.stamp.length f.stamp.length refl) (eq-eqb f.stamp.time f.stamp.time refl))

stamps_are : (ss : List (List ℕ × Stamp)) (fs : List FileEntry) → same_stamps ss fs ≡ true → ss ≡ stamps_of fs
stamps_are [] [] h = refl
stamps_are [] (f ∷ fs) h = absurd (false≢true h)
stamps_are (s ∷ ss) [] h = absurd (false≢true h)
stamps_are (s ∷ ss) (f ∷ fs) h =
    let p = and_parts (same_stamp s f) (same_stamps ss fs) h in
    ap (λ x. x ∷ ss) (stamp_is s f p.0) ∙ ap (λ xs. pair_made f.path f.stamp ∷ xs) (stamps_are ss fs p.1)

stamps_themselves : (fs : List FileEntry) → same_stamps (stamps_of fs) fs ≡ true
stamps_themselves [] = refl
stamps_themselves (f ∷ fs) =
    and_from (same_stamp (pair_made f.path f.stamp) f) (same_stamps (stamps_of fs) fs) (stamp_itself f)
    (stamps_themselves fs)

-- the test of stamps is true exactly of the stamps of the files
pub stamps_decide : (ss : List (List ℕ × Stamp)) (fs : List FileEntry)
    → (same_stamps ss fs ≡ true) ↔ (ss ≡ stamps_of fs)
stamps_decide ss fs = (
  stamps_are ss fs,
  λ e. ap (λ xs. same_stamps xs fs) e ∙ stamps_themselves fs,
)
