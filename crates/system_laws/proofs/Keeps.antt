-- What every state after a legal history keeps, by one induction over its steps.
use Rattle.std.proofs.Common.{◌≡◌, ℕ, zero, suc, ◌⊎◌, inl, inr, List, [], ◌∷◌, ◌++◌, append_assoc}
use Rattle.std.proofs.Common.{replicate}
use Rattle.std.proofs.Common.{Some, refl, sym, ap, ◌∙◌, subst}
use Rattle.std.proofs.lemmas.Option.{none-some}
use Rattle.system_seats.specs.declared.guard.Marks.{Marks}
use Rattle.system_seats.specs.Seats.{no_marks, mark_at}
use Rattle.system_seats.specs.Shapes.{IsTidy}
use Rattle.system_seats.proofs.Rest.{tidy-rest}
use Rattle.system_events.specs.declared.event.Entry.{Entry}
use Rattle.system_events.specs.Facts.{Facts, SameIsEqual}
use Rattle.system_events.specs.State.{State}
use Rattle.system_events.specs.Steps.{effect}
use Rattle.system_events.specs.Legal.{opening, start, IsStep, after_from, AreSteps, after, IsLegal, IsAfter}
use Rattle.system_laws.specs.Lawful.{IsTable, AreOpened, AreSteady}
use Rattle.system_laws.proofs.Tidy.{tidy_after}
use Rattle.system_laws.proofs.Table.{table_kept}
use Rattle.system_laws.proofs.Runs.{program_of, program_of-push, program_kept, AllRun, all_run}
use Rattle.system_laws.proofs.Sections.{all_opened, all_steady}

-- seats that do nothing
marks_at_rest : (n k : ℕ) → mark_at (replicate n no_marks) k ≡ no_marks
marks_at_rest zero k = refl
marks_at_rest (suc n) zero = refl
marks_at_rest (suc n) (suc k) = marks_at_rest n k

none_runs : (n k place : ℕ) → (mark_at (replicate n no_marks) k).running ≡ Some place → ⊥
none_runs n k place is = none-some place (ap (λ (m : Marks). m.running) (sym (marks_at_rest n k)) ∙ is)

none_opened : (n k place : ℕ) → (mark_at (replicate n no_marks) k).section ≡ Some place → ⊥
none_opened n k place is = none-some place (ap (λ (m : Marks). m.section) (sym (marks_at_rest n k)) ∙ is)

module _ {M T V P Q R F : Type 0} (f : Facts T V P Q R F) where
  -- all that a state keeps
  pub record Keeps (s : State M T V P Q R F) : Type 0 where
    pub tidy : IsTidy s.seats
    pub table : IsTable f s.counts.program s.table
    pub program : program_of f.empty s.history ≡ s.counts.program
    pub runs : AllRun f s
    pub sections : AreOpened s
    pub steady : AreSteady s

  -- a step keeps it
  pub keeps_step : SameIsEqual f → (s : State M T V P Q R F) (e : Entry M T V P Q R F) (t : State M T V P Q R F) →
      IsStep f s e t → Keeps s → Keeps (effect f s e.seat e.kept)
  keeps_step equal s e t step is = record {
    tidy = tidy_after f s e.seat e.kept is.tidy step.seated step.passes;
    table = table_kept f equal s e.seat e.kept step.passes is.table;
    program = program_of-push f.empty s.history e ∙ program_kept f _ s e.kept is.program;
    runs = all_run f s e.seat e.kept is.tidy step.seated step.passes is.program is.runs;
    sections = all_opened f s e.seat e.kept is.tidy step.seated step.passes is.sections;
    steady = all_steady f s e.seat e.kept is.tidy step.seated step.passes is.steady;
  }

  -- so do steps
  pub keeps_from : SameIsEqual f → (s : State M T V P Q R F) (es : List (Entry M T V P Q R F)) → AreSteps f s es →
      Keeps s → Keeps (after_from f s es)
  keeps_from equal s [] steps is = is
  keeps_from equal s (e ∷ es) steps is =
      keeps_from equal (effect f s e.seat e.kept) es steps.1 (keeps_step equal s e _ steps.0 is)

  -- the state after the opening does
  pub keeps_start : (n : ℕ) → Keeps (start f n)
  keeps_start n = record {
    tidy = tidy-rest n;
    table = (tt, tt);
    program = refl;
    runs = λ k place is. absurd (none_runs n k place is);
    sections = λ k place is. absurd (none_opened n k place is);
    steady = λ k place later entry is over stands. absurd (none_runs n k place is);
  }

  -- THE STATE AFTER A HISTORY

  -- its history is that history
  pub history_from : (s : State M T V P Q R F) (es : List (Entry M T V P Q R F)) →
      (after_from f s es).history ≡ s.history ++ es
  history_from s [] = sym (append_nil s.history)
    where
      append_nil : (es : List (Entry M T V P Q R F)) → es ++ [] ≡ es
      append_nil [] = refl
      append_nil (e ∷ es) = ap (λ xs. e ∷ xs) (append_nil es)
  history_from s (e ∷ es) =
      history_from (effect f s e.seat e.kept) es ∙ append_assoc s.history (e ∷ []) es

  -- the state after a legal history keeps all
  pub keeps_after : SameIsEqual f → (n : ℕ) (h : List (Entry M T V P Q R F)) → IsLegal f n h → Keeps (after f n h)
  keeps_after equal n h legal =
      subst (λ x. Keeps (after f n x)) (sym legal.opens)
      (keeps_from equal (start f n) legal.entries legal.steps (keeps_start n))

  -- a legal history is the one of the state that it leaves
  pub history_after : (n : ℕ) (h : List (Entry M T V P Q R F)) → IsLegal f n h → (after f n h).history ≡ h
  history_after n h legal =
      subst (λ x. (after f n x).history ≡ x) (sym legal.opens) (history_from (start f n) legal.entries)

  -- ONE ENTRY MORE

  after_from-push : (s : State M T V P Q R F) (es : List (Entry M T V P Q R F)) (e : Entry M T V P Q R F) →
      after_from f s (es ++ e ∷ []) ≡ effect f (after_from f s es) e.seat e.kept
  after_from-push s [] e = refl
  after_from-push s (x ∷ xs) e = after_from-push (effect f s x.seat x.kept) xs e

  steps-push : (s : State M T V P Q R F) (es : List (Entry M T V P Q R F)) (e : Entry M T V P Q R F) →
      AreSteps f s es → IsStep f (after_from f s es) e (effect f (after_from f s es) e.seat e.kept) →
      AreSteps f s (es ++ e ∷ [])
  steps-push s [] e steps step = (step, tt)
  steps-push s (x ∷ xs) e steps step = (steps.0, steps-push (effect f s x.seat x.kept) xs e steps.1 step)

  -- A legal history with one step more is legal, and leaves the state after the step.
  pub after-push : (n : ℕ) (s : State M T V P Q R F) (e : Entry M T V P Q R F) → IsAfter f n s →
      IsStep f s e (effect f s e.seat e.kept) → IsAfter f n (effect f s e.seat e.kept)
  after-push n s e is step =
      let entries : List (Entry M T V P Q R F) = is.legal.entries in
      let here : s ≡ after_from f (start f n) entries = is.state ∙ ap (after f n) is.legal.opens in
      let grown : s.history ++ e ∷ [] ≡ opening f ∷ (entries ++ e ∷ []) = ap (λ h. h ++ e ∷ []) is.legal.opens in
      record {
        legal = record {
          entries = entries ++ e ∷ [];
          opens = grown;
          steps = steps-push (start f n) entries e is.legal.steps
              (subst (λ x. IsStep f x e (effect f x e.seat e.kept)) here step);
        };
        state = ap (λ x. effect f x e.seat e.kept) here
            ∙ (sym (after_from-push (start f n) entries e) ∙ sym (ap (after f n) grown));
      }

  -- A BEGINNING OF A LEGAL HISTORY

  -- where steps go on, the first of them are steps, and the next one is a step from the state that they leave
  pub steps_split : (s : State M T V P Q R F) (xs : List (Entry M T V P Q R F)) (e : Entry M T V P Q R F)
      (ys : List (Entry M T V P Q R F)) → AreSteps f s (xs ++ e ∷ ys) →
      AreSteps f s xs × IsStep f (after_from f s xs) e (effect f (after_from f s xs) e.seat e.kept)
  steps_split s [] e ys steps = (tt, steps.0)
  steps_split s (x ∷ xs) e ys steps =
      let later = steps_split (effect f s x.seat x.kept) xs e ys steps.1 in ((steps.0, later.0), later.1)

  -- An entry of a legal history is the opening, or a step from the state that the legal history before it leaves.
  pub legal_split : (n : ℕ) (before : List (Entry M T V P Q R F)) (e : Entry M T V P Q R F)
      (later : List (Entry M T V P Q R F)) → IsLegal f n (before ++ e ∷ later) →
      (e ≡ opening f) ⊎ (IsLegal f n before × IsStep f (after f n before) e (effect f (after f n before) e.seat e.kept))
  legal_split n [] e later legal = inl (cc)
  legal_split n (x ∷ xs) e later legal =
      let first : x ≡ opening f = cc in
      let rest : xs ++ e ∷ later ≡ legal.entries = cc in
      let split = steps_split (start f n) xs e later (subst (AreSteps f (start f n)) (sym rest) legal.steps) in
      inr (record { entries = xs; opens = ap (λ o. o ∷ xs) first; steps = split.0 }, split.1)
