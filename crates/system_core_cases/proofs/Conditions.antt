-- The conditions of events over letters.
use Rattle.std.proofs.Common.{◌≡◌, ℕ, zero, suc, ◌+◌, ◌∷◌, [], Contains, Some, None, true, refl, sym, ap, ◌∙◌}
use Rattle.std.proofs.Common.{subst, arith}
use Rattle.std.proofs.lemmas.Option.{none-some, same_Some}
use Rattle.system_events.specs.declared.event.Want.TheVariants.{Load}
use Rattle.system_events.specs.declared.event.Kept.TheVariants.{Define, End}
use Rattle.system_events.specs.Facts.{Needs}
use Rattle.system_events.specs.State.{State, is_in, section_want, running_request}
use Rattle.system_events.specs.Steps.{Condition}
use Rattle.system_core_cases.specs.declared.letters.Letter.{Letter}
use Rattle.system_core_cases.specs.Letters.{letters, number_of, asked_by}

module _ {M : Type 0} (s : State M Letter ℕ ℕ Letter ℕ ℕ) (k : ℕ) where
  -- a letter that the sought one needs may be defined
  pub may_define : (sought letter : Letter) → section_want s k ≡ Some (Load sought) → Needs asked_by sought letter →
      Condition letters s k (Define letter)
  may_define sought letter is needs = (refl, (sought, (is, needs)))

  the_one : (r task : Letter) → Contains (r ∷ []) task → r ≡ task
  the_one r task (zero, below, is) = is
  the_one r task (suc i, below, is) = absurd (omega (arith, below))

  -- a request may end with its reply where the table has its letter
  pub may_end : (request : Letter) (reply : ℕ) → running_request s k ≡ Some request →
      reply ≡ s.counts.program + number_of request → is_in letters request s.table ≡ true →
      Condition letters s k (End reply)
  may_end request reply is reply_is there r is_r =
      let same : request ≡ r = same_Some request r (sym is ∙ is_r) in (
        reply_is ∙ ap (λ x. s.counts.program + number_of x) same,
        λ task asked known.
            subst (λ t. is_in letters t s.table ≡ true) (same ∙ the_one r task asked) there,
      )

  -- where no request runs, none has a condition
  pub may_end_none : (reply : ℕ) → running_request s k ≡ None → Condition letters s k (End reply)
  may_end_none reply none r is_r = absurd (none-some r (sym none ∙ is_r))
