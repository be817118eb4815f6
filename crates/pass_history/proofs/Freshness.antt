-- A generation that was fresh stays so.
use Rattle.std.proofs.Common.{◌≡◌, ◌≢◌, ◌≤◌, ◌+◌, ◌⊎◌, inl, inr, ℕ, Bool, true, if◌then◌else◌, List, []}
use Rattle.std.proofs.Common.{◌∷◌, ◌++◌, append_assoc, length, length-append, refl, sym, ap, ◌∙◌, subst, arith}
use Rattle.std.proofs.lemmas.Bool.{eq-eqb}
use Rattle.system_events.specs.declared.event.Entry.{Entry}
use Rattle.system_events.specs.declared.event.Kept.{Kept}
use Rattle.system_events.specs.declared.event.Kept.TheVariants.{Reload}
use Rattle.system_events.specs.Facts.{Facts}
use Rattle.system_events.specs.State.{State}
use Rattle.system_events.specs.Legal.{after, IsLegal}
use Rattle.system_laws.specs.Lawful.{NoReload}
use Rattle.shop_base.specs.Passes.{entry, own, seat_limit, Gains}
use Rattle.shop_base.proofs.Gaining.{own-append}
use Rattle.shop_base.proofs.Later.{after-append, program_stays}
use Rattle.pass_history.specs.Freshness.{NoneReloads, in_force, IsFresh}

module _ {M T V P Q R F : Type 0} (f : Facts T V P Q R F) where
  -- the last Reload of a list of entries
  record LastReload (es : List (Entry M T V P Q R F)) : Type 0 where
    front : List (Entry M T V P Q R F)
    seat : ℕ
    program : P
    rest : List (Entry M T V P Q R F)
    is : es ≡ front ++ entry seat (Reload program) ∷ rest
    last : NoReload f rest

  -- a list of entries has no Reload, or a last one
  last_reload : (es : List (Entry M T V P Q R F)) → NoReload f es ⊎ LastReload es
  last_reload [] = inl tt
  last_reload (e ∷ es) = elim (last_reload es) [
    | inl none ↦ by e.seat e.kept none
    | inr found ↦ inr (record {
      front = e ∷ found.front;
      seat = found.seat;
      program = found.program;
      rest = found.rest;
      is = ap (λ l. e ∷ l) found.is;
      last = found.last;
    })
  ]
    where
      by : (j : ℕ) (kept : Kept M T V P Q R F) → NoReload f es →
          NoReload f (entry j kept ∷ es) ⊎ LastReload (entry j kept ∷ es)
      by j (Reload program) none =
          inr (record { front = []; seat = j; program = program; rest = es; is = refl; last = none })
      by j _ none = inl (tt, none)

  none_behind : (xs ys : List (Kept M T V P Q R F)) → NoneReloads (xs ++ ys) → NoneReloads ys
  none_behind [] ys none = none
  none_behind (x ∷ xs) ys none = none_behind xs ys none.1

  -- where none of seat k's acts is a Reload, each Reload is another seat's
  other_seat : (k : ℕ) (front rest : List (Entry M T V P Q R F)) (j : ℕ) (program : P) →
      NoneReloads (own k (front ++ entry j (Reload program) ∷ rest)) → j ≢ k
  other_seat k front rest j program none same =
      let all = subst NoneReloads (own-append k front (entry j (Reload program) ∷ rest)) none in
      let behind = none_behind (own k front) (own k (entry j (Reload program) ∷ rest)) all in
      absurd ((subst (λ b. NoneReloads (if b then (Reload program ∷ own k rest) else own k rest))
      (eq-eqb j k same) behind).0)

module _ {M T V P Q R F S : Type 0} (f : Facts T V P Q R F) (has_stamps : P → S → Bool) where
  -- Where stamps were in force after a history and the seat itself made no Reload since, the generation is fresh.
  pub fresh_later : (k : ℕ) (stamps : S) (count : ℕ) (at begun : List (Entry M T V P Q R F))
      (acts : List (Kept M T V P Q R F)) → IsLegal f seat_limit at → count ≤ length at →
      in_force f has_stamps at stamps ≡ true → Gains k acts at begun → NoneReloads acts →
      IsFresh f has_stamps k stamps count begun
  fresh_later k stamps count at begun acts legal over was gains none =
      elim (last_reload f gains.more) [
        | inl quiet ↦ inl (ap (λ (s : State M T V P Q R F). has_stamps s.counts.program stamps)
            (ap (after f seat_limit) gains.is ∙ after-append f seat_limit at gains.more legal)
            ∙ (ap (λ p. has_stamps p stamps) (program_stays f (after f seat_limit at) gains.more quiet).0 ∙ was))
        | inr found ↦ inr (record {
          front = at ++ found.front;
          seat = found.seat;
          program = found.program;
          rest = found.rest;
          is = gains.is ∙ (ap (λ l. at ++ l) found.is
              ∙ sym (append_assoc at found.front (entry found.seat (Reload found.program) ∷ found.rest)));
          last = found.last;
          other = other_seat f k found.front found.rest found.seat found.program
              (subst NoneReloads (sym gains.acts ∙ ap (own k) found.is) none);
          since = let longer : length (at ++ found.front) ≡ length at + length found.front =
              length-append at found.front in omega (arith, over, longer);
        })
      ]
