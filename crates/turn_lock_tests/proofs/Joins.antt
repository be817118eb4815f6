-- Tickets that are joined to another one, from the end of a list.
use Rattle.std.proofs.Common.{◌≡◌, ◌+◌, List, [], ◌∷◌, ◌++◌, length, length-append, append-nil, append_assoc, All, sym}
use Rattle.std.proofs.Common.{ap, ◌∙◌}
use Rattle.std.proofs.Common.{subst, arith}
use Rattle.std.proofs.lemmas.List.{get_or_append_left}
use Rattle.std.proofs.lemmas.List.Elements.{All-cons}
use Rattle.turn_lock.specs.Entries.{Begins}
use Rattle.turn_lock.specs.Tickets.{TicketView}
use Rattle.turn_lock_tests.specs.Ready.{WasSeenIn}

-- what holds of each member of a list holds of each member of its beginning
pub All-before : {X : Type 0} (P : X → Type 0) (xs ys : List X) → All P (xs ++ ys) → All P xs
All-before P xs ys all k d below =
    let longer : length (xs ++ ys) ≡ length xs + length ys = length-append xs ys in
    subst P (get_or_append_left xs ys d k below) (all k d (omega arith))

-- what begins a list begins a longer one
pub begins-trans : {E : Type 0} (a b c : List E) → Begins a b → Begins b c → Begins a c
begins-trans a b c x y = (x.0 ++ y.0, y.1 ∙ (ap (λ l. l ++ y.0) x.1 ∙ append_assoc a x.0 y.0))

module _ {B E W : Type 0} where
  -- the tickets that are left begin the whole list, and what each of the others had seen begins what is seen
  pub record IsGathered (all left : List (TicketView B E W)) (seen : List E) : Type 0 where
    pub joined : List (TicketView B E W)
    pub is : all ≡ left ++ joined
    pub seen_all : All (WasSeenIn seen) joined

  -- at first none is joined
  pub gathered_none : (all : List (TicketView B E W)) (seen : List E) → IsGathered all all seen
  gathered_none all seen = record {
    joined = [];
    is = sym (append-nil all);
    seen_all = λ k d below. absurd (omega (arith, below));
  }

  -- one more is joined
  pub gathered_one : (all left rest : List (TicketView B E W)) (other : TicketView B E W) (seen now : List E) →
      IsGathered all left seen → left ≡ rest ++ other ∷ [] → Begins seen now → Begins other.seen now →
      IsGathered all rest now
  gathered_one all left rest other seen now before split longer theirs = record {
    joined = other ∷ before.joined;
    is = before.is ∙ (ap (λ l. l ++ before.joined) split ∙ append_assoc rest (other ∷ []) before.joined);
    seen_all = All-cons (WasSeenIn now) other before.joined theirs
        (λ k d below. begins-trans _ seen now (before.seen_all k d below) longer);
  }

  -- at last all are
  pub gathered_all : (all left : List (TicketView B E W)) (seen : List E) → IsGathered all left seen → left ≡ [] →
      All (WasSeenIn seen) all
  gathered_all all left seen gathered none =
      subst (All (WasSeenIn seen)) (sym (gathered.is ∙ ap (λ l. l ++ gathered.joined) none)) gathered.seen_all
