-- What sentences begin with, and how words are read, by the rules beside.
use Rattle.std.proofs.Common.{◌≡◌, List, [], ◌∷◌, ◌++◌, sym, ap, ◌∙◌, append_assoc, subst}
use Rattle.std.proofs.lemmas.List.{append_cancel_right}
use Rattle.descent.specs.Grammar.{Signs, Grammar, word, Says, words, only}
use Rattle.descent.specs.Faults.{Begins}
use Rattle.descent.specs.Reading.{Choices, Outcome, fault, Why, Reads}
use Rattle.descent.specs.Lawful.{Follow, Lawful}
use Rattle.descent.proofs.Lists.{words_append}
use Rattle.descent.proofs.Lifts.{Lift, Lifts, Up, up_give, up_call, Kept, Lost, lift_is, lift_reads, goes_on}

module _ {g : Signs} (grammar : Grammar g) (choices : Choices g) (lift : Lift g) (lifts : Lifts grammar choices lift)
    {s : g.Sort} (rule : g.Rule s) where
  only_up : Up lift s (only {g = g} {s = s} rule) (only {g = g} {s = s} (lift.up rule))
  only_up = up_call λ y. up_give

  -- what begins a sentence of a rule begins one of the rule beside it, since that has all the alternatives
  pub begins_beside : (ws : List g.Word) → Begins grammar rule ws → Begins grammar (lift.up rule) ws
  begins_beside ws h = (
    h.0,
    h.1,
    (h.2.0, h.2.1, lift_is grammar choices lift lifts (only (lift.up rule)) h.2.2 only_up),
  )

  -- the rule beside reads words with the same outcome, unless the outcome is a fault that the lift doesn't keep
  pub reads_beside : (ws : List g.Word) (o : Outcome g s) → Reads grammar choices s (only rule) [] ws o →
      Kept lift o → Reads grammar choices s (only (lift.up rule)) [] ws o
  reads_beside ws o a h = lift_reads grammar choices lift lifts (only (lift.up rule)) a only_up h

  pub record NextBegins (used rest : List g.Word) : Type 0 where
    pub at : g.Word
    pub behind : List g.Word
    pub here : rest ≡ at ∷ behind
    pub begins : Begins grammar (lift.up rule) (used ++ at ∷ [])

  -- where the fault is lost, a sentence beside goes on with the word there
  pub begins_next : (follow : Follow g) (laws : Lawful grammar choices follow) (ws used rest : List g.Word)
      (why : Why g) →
      Reads grammar choices s (only rule) [] ws (fault why rest) → Lost lift why → ws ≡ used ++ rest →
      NextBegins used rest
  begins_next follow laws ws used rest why a l e =
      let f = goes_on grammar choices lift lifts follow laws (only (lift.up rule)) a l only_up (λ y. tt) (λ y. tt) in
      let same = append_cancel_right (words f.items) used rest (sym f.whole ∙ e) in
      record {
        at = f.at;
        behind = f.behind;
        here = f.here;
        begins = (
          f.items ++ word f.at ∷ [],
          words_append f.items (word f.at ∷ []) ∙ ap (λ l. l ++ f.at ∷ []) same,
          (
            f.more,
            f.value,
            subst (λ l. Says grammar (lift.up rule) l f.value)
                (sym (append_assoc f.items (word f.at ∷ []) f.more)) f.says,
          ),
        );
      }
