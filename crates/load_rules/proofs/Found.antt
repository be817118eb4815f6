-- The reply that was found among the first files.
use Rattle.std.proofs.Common.{◌≡◌, ℕ, ◌<◌, ◌≤◌, ◌+◌, List, length, get_or, Contains, Option, Some, None, slice_index_or}
use Rattle.std.proofs.Common.{inl, inr, ap, sym, ◌∙◌, subst, arith}
use Rattle.std.proofs.lemmas.Bool.{cases_lt}
use Rattle.std.proofs.lemmas.List.Elements.{at_read}
use Rattle.outside.specs.declared.files.FileEntry.{FileEntry}
use Rattle.ruby_types.specs.declared.request.Reply.{Reply}
use Rattle.load_rules.specs.declared.names.Asked.{Asked}
use Rattle.load_rules.specs.FirstReply.{IsReadable, IsFileReply}
use Rattle.load_rules.specs.Readings.{IsFoundReply}

-- the first members
abbrev pub AllBelow : {X : Type 0} → (X → Type 0) → List X → ℕ → Type 0
AllBelow {X} P xs count = (k : ℕ) (d : X) → k < count → P (slice_index_or xs k d)

one_more : {X : Type 0} (P : X → Type 0) (xs : List X) (count : ℕ) (x : X) → count < length xs →
    x ≡ get_or xs count x → AllBelow P xs count → P x → AllBelow P xs (count + 1)
one_more P xs count x inside is below here k d bound = elim (cases_lt k count) [
  | inl less ↦ below k d less
  | inr more ↦ let e : count ≡ k = omega arith in
      subst (λ j. P (slice_index_or xs j d)) e (at_read xs P count x inside is here d)
]

-- the reply of a file with the path that is asked for, or none of the first files has it
abbrev pub IsFoundBelow : List FileEntry → ℕ → Asked → Option Reply → Type 0
IsFoundBelow files count asked None = AllBelow (λ file. file.path ≡ asked.path → ⊥) files count
IsFoundBelow files count asked (Some reply) = (file : FileEntry) × Contains files file × (file.path ≡ asked.path)
    × IsFileReply asked.class asked.action.now file reply

-- what is known of the first files
abbrev pub IsJudgedBelow : List FileEntry → ℕ → Asked → Option Reply → Type 0
IsJudgedBelow files count asked reply = AllBelow IsReadable files count × IsFoundBelow files count asked reply

found_before : (files : List FileEntry) (count : ℕ) (asked : Asked) (file : FileEntry) (reply : Option Reply) →
    count < length files → file ≡ get_or files count file
    → (file.path ≡ asked.path → ⊥) → IsFoundBelow files count asked reply → IsFoundBelow files (count + 1) asked reply
found_before files count asked file None inside is other found =
    one_more (λ f. f.path ≡ asked.path → ⊥) files count file inside is found other
found_before files count asked file (Some reply) inside is other found = found

-- a file with another path than the one that is asked for leaves the reply as it was found
pub passed : (files : List FileEntry) (count : ℕ) (asked : Asked) (file : FileEntry) (reply now : Option Reply) →
    count < length files → file ≡ get_or files count file
    → IsReadable file → (file.path ≡ asked.path → ⊥) → IsJudgedBelow files count asked reply → now ≡ reply →
    IsJudgedBelow files (count + 1) asked now
passed files count asked file reply now inside is readable other (all, found) same = (
  one_more IsReadable files count file inside is all readable,
  subst (IsFoundBelow files (count + 1) asked)
      (sym same) (found_before files count asked file reply inside is other found),
)

-- the reply of a file with the path that is asked for is the reply that is found
pub met : (files : List FileEntry) (count : ℕ) (asked : Asked) (file : FileEntry) (before now : Option Reply)
    (reply : Reply) → count < length files → file ≡ get_or files count file
    → IsReadable file → file.path ≡ asked.path → IsFileReply asked.class asked.action.now file reply →
    IsJudgedBelow files count asked before → now ≡ Some reply → IsJudgedBelow files (count + 1) asked now
met files count asked file before now reply inside is readable placed given (all, found) same = (
  one_more IsReadable files count file inside is all readable,
  subst (IsFoundBelow files (count + 1) asked)
      (sym same) (file, (count, inside, sym is), placed, given),
)

-- what was found when all files were judged is the reply
pub all_judged : (files : List FileEntry) (count : ℕ) (asked : Asked) (reply : Option Reply) → length files ≤ count →
    IsFoundBelow files count asked reply → IsFoundReply files asked reply
all_judged files count asked None whole found = λ file among placed.
    found among.0 file (omega (arith, among.1, whole)) (ap (λ (f : FileEntry). f.path) among.2 ∙ placed)
all_judged files count asked (Some reply) whole found = found
