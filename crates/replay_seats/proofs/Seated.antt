-- The seats of a replay behind a step.
use Rattle.std.proofs.Common.{◌≡◌, ◌≢◌, ◌∷◌, [], ◌<◌, ◌≤◌, ◌+◌, ◌⊎◌, inl, inr, ℕ, List, Option, Some, None, refl, sym}
use Rattle.std.proofs.Common.{ap, ◌∙◌, subst, length, length-set, set, replicate, get_or-set_same}
use Rattle.std.proofs.Common.{get_or-set_other, arith}
use Rattle.std.proofs.lemmas.Bool.{cases_eq, cases_lt}
use Rattle.std.proofs.lemmas.List.{get_or-replicate, get_or_past, length-replicate, set-get_or, set-set}
use Rattle.share_lock.specs.declared.seat.Row.{Row}
use Rattle.share_lock.specs.Rows.{resting_row}
use Rattle.system_events.specs.Facts.{SameIsEqual}
use Rattle.system_events.specs.State.{State}
use Rattle.system_events.specs.Legal.{start}
use Rattle.system_laws.specs.Lawful.{IsExclusive, IsTable}
use Rattle.seat_operations.specs.Readying.{IsMoved}
use Rattle.seat_steps.specs.Standing.{IsOpen, MayBeOpen, StaysOpen}
use Rattle.seat_steps.specs.Stepping.{Steps}
use Rattle.seat_steps.specs.declared.next.Stepped.{Stepped}
use Rattle.seat_steps.specs.declared.next.Stepped.TheVariants as step
use Rattle.seat_steps.proofs.Standing.{open_stays}
use Rattle.seat_progress.specs.Quiet.{Progresses, quiet_in}
use Rattle.seat_progress.proofs.Progress.{step_progresses}
use Rattle.replay_files.specs.Holding.{Holding}
use Rattle.replay_seats.specs.Play.{Play}
use Rattle.replay_seats.specs.Situation.{Situation, Requested, AreSeated, seat_at}
use Rattle.replay_seats.specs.Turning.{turn_of, request_behind, left, lines_of, idle_line, TurnsAt, AdvancesFrom}
use Rattle.replay_seats.specs.Turning.{IsMade, IsTurned, IsOpened, Opens}
use Rattle.replay_seats.specs.declared.turn.Turn.{Turn}
use Rattle.replay_seats.specs.declared.turn.Turn.TheVariants.{Went, Idle}
use Rattle.replay_seats.proofs.Rows.{moved_rows, moved_longer}

module _ {M T V P Q R F G W E X O H U N : Type 0} (play : Play M T V P Q R F G W E X O H U N) where
  -- what stands behind a step is open, or over
  behind_is_open : (s : State M T V P Q R F) (k : ℕ) (stepped : Stepped (Requested play)) →
      StaysOpen play.facts play.talks play.theories s k stepped →
      MayBeOpen play.facts play.talks play.theories s k (request_behind stepped)
  behind_is_open s k (step.Went lines request) stays = stays
  behind_is_open s k (step.Waits line request) stays = stays
  behind_is_open s k step.Limit stays = tt

  -- an open request of another seat stays so
  abbrev pub OthersStay : State M T V P Q R F → State M T V P Q R F → ℕ → Type 0
  OthersStay old new k = (j : ℕ) (request : Requested play) → j ≢ k →
      MayBeOpen play.facts play.talks play.theories old j (Some request) →
      MayBeOpen play.facts play.talks play.theories new j (Some request)

  -- the same of a seat that may have none
  may_stay : (old new : State M T V P Q R F) (k j : ℕ) (request : Option (Requested play)) → OthersStay old new k →
      j ≢ k → MayBeOpen play.facts play.talks play.theories old j request →
      MayBeOpen play.facts play.talks play.theories new j request
  may_stay old new k j None others other is = tt
  may_stay old new k j (Some request) others other is = others j request other is

  module _ (s : State M T V P Q R F) (seats : List (Option (Requested play))) (k : ℕ) (below : k < 64)
      (seated : AreSeated play s seats) where
    -- the place of a seat
    pub place_below : k < length seats
    place_below = subst (λ n. k < n) (sym seated.places) below

    -- the seats, of which one has this request now
    pub set_seated : (new : State M T V P Q R F) (request : Option (Requested play)) →
        length new.seats.lock.rows ≡ length s.seats.lock.rows → OthersStay s new k →
        MayBeOpen play.facts play.talks play.theories new k request → AreSeated play new (set seats k request)
    set_seated new request rows others is = record {
      rows = rows ∙ seated.rows;
      places = length-set seats k request ∙ seated.places;
      open_ones = λ j. elim (cases_eq j k) [
        | inl same ↦ subst (λ i. MayBeOpen play.facts play.talks play.theories new i
            (seat_at (set seats k request) i)) (sym same)
            (subst (λ o. MayBeOpen play.facts play.talks play.theories new k o)
            (sym (get_or-set_same seats k request None place_below)) is)
        | inr other ↦ subst (λ o. MayBeOpen play.facts play.talks play.theories new j o)
            (sym (get_or-set_other seats k j request None other))
            (may_stay s new k j (seat_at seats j) others other (seated.open_ones j))
      ];
    }

    -- the seats without the request of one
    pub taken_seated : AreSeated play s (set seats k None)
    taken_seated = set_seated s None refl (λ j request other is. is) tt

    -- the seats where one has a request now
    pub opened_seated : (request : Requested play) → IsOpen play.facts play.talks play.theories s k request →
        AreSeated play s (set seats k (Some request))
    opened_seated request is = set_seated s (Some request) refl (λ j other not_it stands. stands) is

    -- the request of a seat that has one stands
    pub taken_stands : (request : Requested play) → seat_at seats k ≡ Some request →
        IsOpen play.facts play.talks play.theories s k request
    taken_stands request is = subst (λ o. MayBeOpen play.facts play.talks play.theories s k o) is (seated.open_ones k)

module _ {M T V P Q R F G W E X O H U N : Type 0} (play : Play M T V P Q R F G W E X O H U N)
    (equal : SameIsEqual play.facts) where
  -- other seats' requests stay open behind a step
  others_stay : (old new : State M T V P Q R F) (k : ℕ) → IsExclusive old.seats → IsMoved play.facts old new k →
      OthersStay play old new k
  others_stay old new k exclusive (inl same) j request other is =
      subst (λ s. IsOpen play.facts play.talks play.theories s j request) (sym same) is
  others_stay old new k exclusive (inr entered) j request other is =
      open_stays play.facts equal play.talks play.theories old new j request.actor
      (record { seat = k; kept = entered.0 }) exclusive entered.1 other request.next is

  module _ (old : Situation play) (k : ℕ) (below : k < 64) (seated : AreSeated play old.state old.seats)
      (request : Requested play) where
    -- a seat that goes on advances
    step_advances : (new : State M T V P Q R F) (stepped : Stepped (Requested play)) (turn : Turn) →
        turn ≡ turn_of stepped → turn ≡ Went →
        ((next : Requested play) → stepped ≡ step.Went (lines_of stepped) (Some next) →
        Progresses play.facts play.talks old.state new request next) →
        (length old.state.history < length new.history)
        ⊎ (left play new (seat_at (set old.seats k (request_behind stepped)) k) < left play old.state (Some request))
    step_advances new (step.Went lines next) turn is went progress = by next progress
      where
        at_seat : (o : Option (Requested play)) → seat_at (set old.seats k o) k ≡ o
        at_seat o = get_or-set_same old.seats k o None (place_below play old.state old.seats k below seated)

        by : (o : Option (Requested play)) →
            ((n : Requested play) → step.Went lines o ≡ step.Went lines (Some n) →
            Progresses play.facts play.talks old.state new request n) →
            (length old.state.history < length new.history)
            ⊎ (left play new (seat_at (set old.seats k o) k) < left play old.state (Some request))
        by None go = inr (subst (λ (r : Option (Requested play)). left play new r
            < quiet_in play.facts play.talks old.state request + 1) (sym (at_seat None)) (omega arith))
        by (Some n) go = elim (go n refl) [
          | inl longer ↦ inl longer
          | inr quieter ↦ inr (subst (λ (r : Option (Requested play)). left play new r
              < quiet_in play.facts play.talks old.state request + 1) (sym (at_seat (Some n)))
              (let less : quiet_in play.facts play.talks new n < quiet_in play.facts play.talks old.state request
              = quieter.1 in omega (arith, less)))
        ]
    step_advances new (step.Waits line next) turn is went progress = absurd (cc (is, went))
    step_advances new step.Limit turn is went progress = absurd (cc (is, went))

    -- a step of a seat whose request was taken out
    pub step_made : (new : Situation play) (stepped : Stepped (Requested play)) (lines : List (List ℕ)) (turn : Turn)
        (next : Option (Requested play)) → IsExclusive old.state.seats →
        IsTable play.facts old.state.counts.program old.state.table →
        IsOpen play.facts play.talks play.theories old.state k request →
        Steps play.facts play.talks play.words play.sources play.theories old.state new.state old.files.held k request
        stepped → StaysOpen play.facts play.talks play.theories new.state k stepped →
        IsMoved play.facts old.state new.state k → new.files ≡ old.files → lines ≡ lines_of stepped →
        turn ≡ turn_of stepped → next ≡ request_behind stepped → new.seats ≡ set old.seats k next →
        IsMade play request old new k lines turn
    step_made new stepped lines turn next exclusive table stands steps stays moved files told turned is placed =
        let seats : new.seats ≡ set old.seats k (request_behind stepped) = placed ∙ ap (set old.seats k) is in
        record {
          makes = record {
            stepped = stepped;
            steps = steps;
            files = files;
            seats = seats;
            told = told;
            turned = turned;
          };
          seated = subst (AreSeated play new.state) (sym seats)
              (set_seated play old.state old.seats k below seated new.state (request_behind stepped)
              (moved_rows play.facts old.state new.state k moved)
              (others_stay old.state new.state k exclusive moved) (behind_is_open play new.state k stepped stays));
          advances = λ went. record {
            stays = moved_longer play.facts old.state new.state k moved;
            advances = subst (λ (ss : List (Option (Requested play))). (length old.state.history
                < length new.state.history)
                ⊎ (left play new.state (seat_at ss k) < left play old.state (Some request))) (sym seats)
                (step_advances new.state stepped turn turned went (λ n went_on.
                step_progresses play.facts equal play.talks play.words play.sources play.theories old.state new.state
                old.files.held k (lines_of stepped) n table.0 request.actor request.next stands
                (subst (λ st. Steps play.facts play.talks play.words play.sources play.theories old.state new.state
                old.files.held k request st) went_on steps)));
          };
        }

-- of many seats without a request none has one
none_at : {B : Type 0} (n k : ℕ) → seat_at {B = B} (replicate n None) k ≡ None
none_at n k = elim (cases_lt k n) [
  | inl below ↦ get_or-replicate n k None None below
  | inr past ↦ get_or_past (replicate n None) k None (subst (λ m. m ≤ k) (sym (length-replicate n None)) past)
]

module _ {M T V P Q R F G W E X O H U N : Type 0} (play : Play M T V P Q R F G W E X O H U N) where
  -- a replay is seated at first
  pub first_seated : AreSeated play (start play.facts 64) (replicate 64 None)
  first_seated = record {
    rows = length-replicate {A = Row} 64 resting_row;
    places = length-replicate {A = Option (Requested play)} 64 None;
    open_ones = λ k. subst (λ o. MayBeOpen play.facts play.talks play.theories (start play.facts 64) k o)
        (sym (none_at 64 k)) tt;
  }

  module _ (state : State M T V P Q R F) (files : Holding) (seats : List (Option (Requested play))) where
    -- so many seats over a state and files
    abbrev over : List (Option (Requested play)) → Situation play
    over places = record { state = state; files = files; seats = places }

    -- a step of a seat without a request
    pub idle_turned : (rest : List (Option (Requested play))) (k : ℕ) (lines : List (List ℕ)) (turn : Turn) →
        AreSeated play state seats → seat_at seats k ≡ None → rest ≡ set seats k None → lines ≡ idle_line k ∷ [] →
        turn ≡ Idle → IsTurned play (over seats) (over rest) k lines turn
    idle_turned rest k lines turn seated none rest_is told is =
        let same : rest ≡ seats = rest_is ∙ (ap (set seats k) (sym none) ∙ set-get_or seats k None) in
        record {
          turns = subst (λ o. TurnsAt play o (over seats) (over rest) k lines turn) (sym none)
              (ap over same, told, is);
          seated = subst (AreSeated play state) (sym same) seated;
          advances = λ went. absurd (cc (is, went));
        }

    -- a step of a seat with one
    pub step_turned : (rest : List (Option (Requested play))) (new : Situation play) (k : ℕ)
        (request : Requested play) (lines : List (List ℕ)) (turn : Turn) → seat_at seats k ≡ Some request →
        rest ≡ set seats k None → IsMade play request (over rest) new k lines turn →
        IsTurned play (over seats) new k lines turn
    step_turned rest new k request lines turn some rest_is made =
        let now = subst (λ places. IsMade play request (over places) new k lines turn) rest_is made in
        record {
          turns = subst (λ o. TurnsAt play o (over seats) new k lines turn) (sym some) (record {
            stepped = now.makes.stepped;
            steps = now.makes.steps;
            files = now.makes.files;
            seats = now.makes.seats ∙ set-set seats k None (request_behind now.makes.stepped);
            told = now.makes.told;
            turned = now.makes.turned;
          });
          seated = now.seated;
          advances = λ went. subst (λ o. AdvancesFrom play o (over seats) new k) (sym some) (record {
            stays = (now.advances went).stays;
            advances = (now.advances went).advances;
          });
        }

  -- a seat has a request now
  pub opens : (target : List ℕ) (s : State M T V P Q R F) (old new : List (Option (Requested play))) (k : ℕ)
      (request : Requested play) → k < 64 → AreSeated play s old → IsOpened play target request →
      IsOpen play.facts play.talks play.theories s k request → new ≡ set old k (Some request) →
      Opens play target s old new k
  opens target s old new k request below seated opened stands is = record {
    request = request;
    opened = opened;
    seats = is;
    seated = subst (AreSeated play s) (sym is) (opened_seated play s old k below seated request stands);
  }
