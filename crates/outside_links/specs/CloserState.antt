-- What closers tell.
use Rattle.std.specs.Prelude.{◌≡◌, ◌⊎◌, ℕ, ◌+◌, List, [], ◌∷◌, ◌++◌, Option, Some, None, Bool, true, cond, length}
use Rattle.std.specs.Prelude.{nat_eq, nat_lt, false, IfSome, refl}
use Rattle.std.proofs.lemmas.Bool.{eqb-true}
use Rattle.outside.specs.Told.{appended}

-- A closer that tells has told this link behind the others, or it has stopped telling.
abbrev pub TellsMore : {L : Type 0} → L → (before now : Option (List L)) → Type 0
TellsMore link before now = (now ≡ appended before (link ∷ [])) ⊎ (now ≡ None)

-- a closer that keeps links: those that it kept, for how many it has room, how many it got
pub record KeptLinks (L : Type 0) : Type 0 where
  pub kept : List L
  pub room : ℕ
  pub count : ℕ

-- it tells the links that it kept as long as these are all
abbrev pub all_kept : {L : Type 0} → KeptLinks L → Option (List L)
all_kept closer = cond (nat_eq (length closer.kept) closer.count) (Some closer.kept) None

-- it tells as many links as it got
told_where : {L : Type 0} (kept : List L) (count : ℕ) (test : Bool) → nat_eq (length kept) count ≡ test →
    IfSome (cond test (Some kept) None) (λ links. length links ≡ count)
told_where kept count true is = eqb-true (length kept) count is
told_where kept count false is = tt

-- a closer that tells its links tells as many as it got
pub all_told : {L : Type 0} (closer : KeptLinks L) → IfSome (all_kept closer) (λ links. length links ≡ closer.count)
all_told closer = told_where closer.kept closer.count (nat_eq (length closer.kept) closer.count) refl

-- the closer after one link more, which it keeps where it has room
abbrev pub with_link : {L : Type 0} → L → KeptLinks L → KeptLinks L
with_link link closer = record {
  kept = cond (nat_lt (length closer.kept) closer.room) (closer.kept ++ link ∷ []) closer.kept;
  room = closer.room;
  count = closer.count + 1;
}
