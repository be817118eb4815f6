-- What closers tell.
use Rattle.std.specs.Prelude.{◌≡◌, ℕ, Bool, false, List, [], ◌∷◌, Option, Some, None, IfSome, length}
use Rattle.std.proofs.Common.{arith, sym, subst, inl, inr}
use Rattle.std.proofs.lemmas.List.Elements.{All-append}
use Rattle.outside.specs.Told.{appended}
use Rattle.outside_links.specs.CloserState.{TellsMore}
use Rattle.serve_port.specs.Answered.{TellsAnswered}
use Rattle.serve_port.proofs.Rows.{all_one}

more : {L : Type 0} (answered : L → Type 0) (before : Option (List L)) (link : L) → TellsAnswered answered before →
    answered link → TellsAnswered answered (appended before (link ∷ []))
more answered None link told fact = tt
more answered (Some all) link told fact = All-append answered all (link ∷ []) told (all_one answered link fact)

-- what is told is answered with one link more, where that is answered
pub answered_with : {L : Type 0} (answered : L → Type 0) (before now : Option (List L)) (link : L) →
    TellsMore link before now → TellsAnswered answered before → answered link → TellsAnswered answered now
answered_with answered before now link tells told fact = elim tells [
  | inl e ↦ subst (TellsAnswered answered) (sym e) (more answered before link told fact)
  | inr e ↦ subst (TellsAnswered answered) (sym e) tt
]

-- so it is where the connection found memory enough
pub answered_more : {L : Type 0} (answered : L → Type 0) (before now : Option (List L)) (link : L) (short : Bool) →
    TellsMore link before now → TellsAnswered answered before → (short ≡ false → answered link) → short ≡ false →
    TellsAnswered answered now
answered_more answered before now link short tells told fact whole =
    answered_with answered before now link tells told (fact whole)

-- a list without a length has nothing in it that isn't answered
pub none_told : {L : Type 0} (answered : L → Type 0) (told : Option (List L)) (n : ℕ) → n ≡ 0 →
    IfSome told (λ links. length links ≡ n) → TellsAnswered answered told
none_told answered None n none counts = tt
none_told answered (Some all) n none counts = λ k d h. absurd (omega (arith, h, counts, none))
