-- Steps of a seat that were made so far.
use Rattle.std.proofs.Common.{◌≡◌, ℕ, List, [], ◌++◌, ◌≤◌, ◌<◌, Bool, true, false, Option, Some, None, is_some}
use Rattle.std.proofs.Common.{refl, sym, ap, ◌∙◌, subst, inl, inr, length, arith}
use Rattle.std.specs.Prelude.{Result, Ok, Err, OnErr}
use Rattle.std.proofs.Math.Dec.{ltb}
use Rattle.std.proofs.lemmas.Bool.{ltb-true, ltb-false}
use Rattle.std.proofs.lemmas.List.{append-nil, append_assoc}
use Rattle.seat_steps.specs.declared.next.Stepped.{Stepped}
use Rattle.seat_steps.specs.declared.next.Stepped.TheVariants as step
use Rattle.replay_seats.specs.Play.{Play}
use Rattle.replay_seats.specs.Situation.{Situation, Requested, seat_at}
use Rattle.replay_seats.specs.Turning.{Turns, TurnsAt, IsTurned, turn_of}
use Rattle.replay_seats.specs.declared.turn.Turn.{Turn}
use Rattle.replay_seats.specs.declared.turn.Turn.TheVariants as turn
use Rattle.replay_finishes.specs.declared.stops.Finish.{Finish}
use Rattle.replay_finishes.specs.declared.stops.Finish.TheVariants as finish
use Rattle.replay_finishes.specs.Finishing.{Makes, Has-Made-None, Makes-One-More, Stops, Finishes, Began}
use Rattle.replay_finishes.specs.declared.stops.Pace.TheVariants as pace
use Rattle.replay_finishes.specs.Pacing.{Paces, Pauses, pace_of}

-- a seat that has no request
pub none_open : {B : Type 0} (o : Option B) → is_some o ≡ false → o ≡ None
none_open None none = refl
none_open (Some request) none = absurd (cc (none))

-- what holds where memory ran out
pub told_err : {A E X : Type 0} (r : Result A E) → X → OnErr r X
told_err (Ok value) is = tt
told_err (Err error) is = is

-- what is shorter is no longer
pub no_longer : {a b : ℕ} → a < b → a ≤ b
no_longer less = omega (arith, less)

module _ {M T V P Q R F G W E X O H U N : Type 0} (play : Play M T V P Q R F G W E X O H U N) (k : ℕ) where
  -- From one situation to the other seat k made steps, and the lines that tell them stand behind the first ones. The
  -- history is no shorter.
  pub record IsGoing (old new : Situation play) (first lines : List (List ℕ)) : Type 0 where
    pub told : List (List ℕ)
    pub makes : Makes play k old new told
    pub lines_are : lines ≡ first ++ told
    pub longer : length old.state.history ≤ length new.state.history

  -- no step was made yet
  pub goes_at_first : (old : Situation play) (first : List (List ℕ)) → IsGoing old old first first
  goes_at_first old first = record {
    told = [];
    makes = Has-Made-None;
    lines_are = sym (append-nil first);
    longer = omega arith;
  }

  -- one more was
  pub goes_on : (old mid new : Situation play) (first lines told after : List (List ℕ)) → IsGoing old mid first lines →
      Turns play mid new k told turn.Went → after ≡ lines ++ told →
      length mid.state.history ≤ length new.state.history → IsGoing old new first after
  goes_on old mid new first lines told after going turns is grows = record {
    told = going.told ++ told;
    makes = Makes-One-More mid new going.told told going.makes turns;
    lines_are = is ∙ (ap (λ l. l ++ told) going.lines_are ∙ append_assoc first going.told told);
    longer = let before : length old.state.history ≤ length mid.state.history = going.longer in
        omega (arith, before, grows);
  }

  -- the seat stops
  pub going_stops : (old mid new : Situation play) (first lines told after : List (List ℕ)) (how : Finish) →
      IsGoing old mid first lines → Stops play k mid new told how → after ≡ lines ++ told →
      (all : List (List ℕ)) × Finishes play k old new all how × (after ≡ first ++ all)
  going_stops old mid new first lines told after how going stops is = (
    going.told ++ told,
    record {
      mid = mid;
      before = going.told;
      told = told;
      makes = going.makes;
      stops = stops;
      lines_are = refl;
    },
    is ∙ (ap (λ l. l ++ told) going.lines_are ∙ append_assoc first going.told told),
  )

  -- the seat has no request any more
  pub going_is_over : (old mid : Situation play) (first lines : List (List ℕ)) → IsGoing old mid first lines →
      seat_at mid.seats k ≡ None →
      (all : List (List ℕ)) × Finishes play k old mid all finish.Over × (lines ≡ first ++ all)
  going_is_over old mid first lines going none = going_stops old mid mid first lines [] lines finish.Over going
      (refl, none, refl) (sym (append-nil lines))

  -- memory ran out: the lines tell the steps that were made
  pub going_began : (old mid : Situation play) (first lines after : List (List ℕ)) → IsGoing old mid first lines →
      after ≡ lines → (all : List (List ℕ)) × Began play k old all × (after ≡ first ++ all)
  going_began old mid first lines after going is =
      (going.told, record { mid = mid; makes = going.makes }, is ∙ going.lines_are)

  -- steps behind steps
  makes_more : (old mid : Situation play) (before : List (List ℕ)) → Makes play k old mid before →
      {new : Situation play} {told : List (List ℕ)} → Makes play k mid new told →
      Makes play k old new (before ++ told)
  makes_more old mid before first Has-Made-None =
      subst (λ l. Makes play k old mid l) (sym (append-nil before)) first
  makes_more old mid before first (Makes-One-More at now lines last makes turns) =
      subst (λ l. Makes play k old now l) (append_assoc before lines last)
      (Makes-One-More at now (before ++ lines) last (makes_more old mid before first makes) turns)

  -- lines behind lines behind the first ones
  behind_both : (first now told lines after : List (List ℕ)) → lines ≡ first ++ now → after ≡ lines ++ told →
      after ≡ first ++ (now ++ told)
  behind_both first now told lines after lines_are is =
      is ∙ (ap (λ l. l ++ told) lines_are ∙ append_assoc first now told)

  -- many steps more were made
  pub goes_on_by : (old mid new : Situation play) (first lines told after : List (List ℕ)) →
      IsGoing old mid first lines → Makes play k mid new told → after ≡ lines ++ told →
      length mid.state.history ≤ length new.state.history → IsGoing old new first after
  goes_on_by old mid new first lines told after going makes is grows = record {
    told = going.told ++ told;
    makes = makes_more old mid going.told going.makes makes;
    lines_are = behind_both first going.told told lines after going.lines_are is;
    longer = let before : length old.state.history ≤ length mid.state.history = going.longer in
        omega (arith, before, grows);
  }

  -- the seat stops behind many steps more
  pub going_finishes : (old mid new : Situation play) (first lines told after : List (List ℕ)) (how : Finish) →
      IsGoing old mid first lines → Finishes play k mid new told how → after ≡ lines ++ told →
      (all : List (List ℕ)) × Finishes play k old new all how × (after ≡ first ++ all)
  going_finishes old mid new first lines told after how going ends is = (
    going.told ++ told,
    record {
      mid = ends.mid;
      before = going.told ++ ends.before;
      told = ends.told;
      makes = makes_more old mid going.told going.makes ends.makes;
      stops = ends.stops;
      lines_are = ap (λ l. going.told ++ l) ends.lines_are ∙ sym (append_assoc going.told ends.before ends.told);
    },
    behind_both first going.told told lines after going.lines_are is,
  )

  -- memory ran out behind many steps more
  pub going_began_more : (old mid : Situation play) (first lines told after : List (List ℕ)) →
      IsGoing old mid first lines → Began play k mid told → after ≡ lines ++ told →
      (all : List (List ℕ)) × Began play k old all × (after ≡ first ++ all)
  going_began_more old mid first lines told after going began is = (
    going.told ++ told,
    record { mid = began.mid; makes = makes_more old mid going.told going.makes began.makes },
    behind_both first going.told told lines after going.lines_are is,
  )

  -- the step of a seat with a request, by how it goes on
  pub step_paces : (old new : Situation play) (told : List (List ℕ)) (went : Turn) (grew : Bool) →
      IsTurned play old new k told went → is_some (seat_at old.seats k) ≡ true →
      grew ≡ ltb (length old.state.history) (length new.state.history) → Paces play k old new told (pace_of went grew)
  step_paces old new told turn.Went true turned has is =
      (turned.turns, ltb-true (length old.state.history) (length new.state.history) (sym is))
  step_paces old new told turn.Went false turned has is =
      let shorter : length new.state.history ≤ length old.state.history =
      ltb-false (length old.state.history) (length new.state.history) (sym is) in (
        turned.turns,
        (turned.advances refl).stays,
        elim ((turned.advances refl).advances) [
          | inl longer ↦ absurd (omega (arith, shorter, longer))
          | inr fewer ↦ fewer
        ],
      )
  step_paces old new told turn.Waits grew turned has is = turned.turns
  step_paces old new told turn.Limit grew turned has is = turned.turns
  step_paces old new told turn.Idle grew turned has is = no_idle (seat_at old.seats k) has turned.turns
    where
      no_idle : (o : Option (Requested play)) → is_some o ≡ true → TurnsAt play o old new k told turn.Idle → ⊥
      no_idle None some turns = absurd (cc (some))
      no_idle (Some request) some turns = by turns.stepped turns.turned
        where
          by : (stepped : Stepped (Requested play)) → turn.Idle ≡ turn_of stepped → ⊥
          by (step.Went lines next) is = absurd (cc (is))
          by (step.Waits line next) is = absurd (cc (is))
          by step.Limit is = absurd (cc (is))

  -- a step entered something behind those that were made
  pub going_enters : (old mid new : Situation play) (first lines told after : List (List ℕ)) →
      IsGoing old mid first lines → Paces play k mid new told pace.Entered → after ≡ lines ++ told →
      (all : List (List ℕ)) × Pauses play k old new all pace.Entered × (after ≡ first ++ all)
  going_enters old mid new first lines told after going paces is =
      let before : length old.state.history ≤ length mid.state.history = going.longer in
      let grows : length mid.state.history < length new.state.history = paces.1 in (
        going.told ++ told,
        (Makes-One-More mid new going.told told going.makes paces.0, omega (arith, before, grows)),
        behind_both first going.told told lines after going.lines_are is,
      )

  -- the seat stops behind them
  pub going_paused : (old mid new : Situation play) (first lines told after : List (List ℕ)) (how : Finish) →
      IsGoing old mid first lines → Paces play k mid new told (pace.Stops how) → after ≡ lines ++ told →
      (all : List (List ℕ)) × Finishes play k old new all how × (after ≡ first ++ all)
  going_paused old mid new first lines told after finish.Over going paces is = absurd paces
  going_paused old mid new first lines told after finish.Waits going paces is =
      going_stops old mid new first lines told after finish.Waits going paces is
  going_paused old mid new first lines told after finish.Limit going paces is =
      going_stops old mid new first lines told after finish.Limit going paces is
