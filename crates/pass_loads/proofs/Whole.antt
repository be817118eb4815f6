-- A whole load.
use Rattle.std.proofs.Common.{◌≡◌, ℕ, ◌+◌, ◌-◌, List, [], ◌++◌, Some, None, inl, inr, refl, sym, ap, ◌∙◌, subst, arith}
use Rattle.std.specs.Prelude.{Option, IfSome, Result, Ok, Err, OnErr}
use Rattle.by_need.specs.Blame.{Cause, blame}
use Rattle.by_need.specs.Rounds.{Rules}
use Rattle.by_need_loader.specs.Failures.{cause}
use Rattle.by_need_loader.specs.declared.loader.Failure.{Failure}
use Rattle.turn_lock.specs.Entries.{Lags}
use Rattle.system_events.specs.declared.event.Kept.{Kept}
use Rattle.system_events.specs.declared.event.Want.TheVariants.{Load}
use Rattle.system_events.specs.Facts.{Facts, SameIsEqual}
use Rattle.request_actor.specs.Talks.{Talks}
use Rattle.request_laws.specs.Conduct.{AreDefines, Opens, Closes}
use Rattle.shop_base.specs.declared.row.PassRow.{PassRow}
use Rattle.shop_base.specs.Rows.{with_room, running_seat, loading_seat}
use Rattle.shop_base.specs.Passes.{PassView, seat_of, seen_state, moved, IsPass, Gains}
use Rattle.shop_base.proofs.Gaining.{gains_lags, gains-trans}
use Rattle.pass_loads.specs.Loading.{MayLoad, HasFailed, LoadsOn}
use Rattle.pass_loads.proofs.Steady.{program_of_pass}

-- what follows of what there is holds where there is something
pub some_map : {A : Type 0} (o : Option A) (P Q : A → Type 0) → ((a : A) → P a → Q a) → IfSome o P → IfSome o Q
some_map None P Q follows is = tt
some_map (Some a) P Q follows is = follows a is

-- what is, is where there is a fault
pub on_err_of : {A E : Type 0} (r : Result A E) (Holds : Type 0) → Holds → OnErr r Holds
on_err_of (Ok a) Holds is = tt
on_err_of (Err e) Holds is = is

added_taken : (n : ℕ) → n + 2 - 2 ≡ n
added_taken n = omega arith

-- what a Take leaves of the room that a Seek set aside
pub one_less : (n : ℕ) → n + 3 - 1 ≡ n + 2
one_less n = omega arith

module _ {M T V P Q R F : Type 0} where
  -- turns that leave the row
  pub moved_own : (p r : PassView M T V P Q R F) → r ≡ moved p p.row r.seen → r ≡ moved p r.row r.seen
  moved_own p r same =
      same ∙ ap (λ (x : PassRow). moved p x r.seen) (sym (ap (λ (x : PassView M T V P Q R F). x.row) same))

  -- turns after turns leave the pass as it was but for its row and what it has seen
  pub moved_twice : (p q r : PassView M T V P Q R F) → q ≡ moved p q.row q.seen → r ≡ moved q r.row r.seen →
      r ≡ moved p r.row r.seen
  moved_twice p q r first second = second ∙ ap (λ (x : PassView M T V P Q R F). moved x r.row r.seen) first

  -- and where its row is what it was, but for what it has seen
  pub moved_back : (p r : PassView M T V P Q R F) → r ≡ moved p r.row r.seen → r.row ≡ p.row →
      r ≡ moved p p.row r.seen
  moved_back p r same row = same ∙ ap (λ (x : PassRow). moved p x r.seen) row

  -- the row behind a section is the one before it
  pub row_back : (p q r : PassView M T V P Q R F) (begun opened : ℕ) → p.row.seat ≡ running_seat begun →
      q.row ≡ with_room (loading_seat begun opened) (p.row.entries + 2) p.row.values →
      r.row ≡ with_room (running_seat begun) (q.row.entries - 2) q.row.values → r.row ≡ p.row
  row_back p q r begun opened runs opens closes =
      closes
      ∙ (ap (λ (x : PassRow). with_room (running_seat begun) (x.entries - 2) x.values) opens
      ∙ (λ i. with_room (sym runs i) (added_taken p.row.entries i) p.row.values))

  -- a section is a load
  pub section_whole : (p q r : PassView M T V P Q R F) (task : T)
      (opening defined closing : List (Kept M T V P Q R F)) → q.number ≡ p.number →
      Opens (Load task) opening → Gains p.number opening p.seen q.seen → AreDefines defined →
      Closes closing → Gains q.number (defined ++ closing) q.seen r.seen →
      (acts : List (Kept M T V P Q R F)) × (MayLoad task acts × Gains p.number acts p.seen r.seen)
  section_whole p q r task opening defined closing number opens first are closes rest = (
    opening ++ (defined ++ closing),
    (
      inr (record {
        opening = opening;
        defined = defined;
        closing = closing;
        is = refl;
        opens = opens;
        are = are;
        closes = closes;
      }),
      gains-trans p.number opening (defined ++ closing) p.seen q.seen r.seen first
          (subst (λ n. Gains n (defined ++ closing) q.seen r.seen) number rest),
    ),
  )

  -- a load without a section
  pub no_section : (p r : PassView M T V P Q R F) (task : T) → Lags seat_of p.number p.seen r.seen →
      (acts : List (Kept M T V P Q R F)) × (MayLoad task acts × Gains p.number acts p.seen r.seen)
  no_section p r task lags = ([], (inl refl, gains_lags p.number p.seen r.seen lags))

  -- the Defines of a section, and how it is left
  pub section_left : (f : Facts T V P Q R F) (p q r : PassView M T V P Q R F) (closing : List (Kept M T V P Q R F)) →
      LoadsOn f p q → Closes closing → Gains q.number closing q.seen r.seen →
      (defined left : List (Kept M T V P Q R F)) × (AreDefines defined × (Closes left
      × Gains p.number (defined ++ left) p.seen r.seen))
  section_left f p q r closing on closes gains = (
    on.acts,
    closing,
    (
      on.are,
      (
        closes,
        gains-trans p.number on.acts closing p.seen q.seen r.seen on.gains
            (subst (λ n. Gains n closing q.seen r.seen) (ap (λ (x : PassView M T V P Q R F). x.number) on.same)
            gains),
      ),
    ),
  )

module _ {M T V P Q R F G W E B O : Type 0} (f : Facts T V P Q R F) (equal : SameIsEqual f)
    (talks : Talks T V P Q R E G W) where
  -- a load that failed has failed still behind its section
  pub failed_behind : (rules : Rules T V B O) (reason : Cause T B O → E) (program : P) (task : T) (why : Cause T B O)
      (error : E) (p q r : PassView M T V P Q R F) (begun opened : ℕ) → IsPass f q → IsPass f r → LoadsOn f p q →
      (seen_state f p).counts.program ≡ program → r ≡ moved q r.row r.seen →
      q.row.seat ≡ loading_seat begun opened →
      r.row.seat ≡ running_seat begun → (acts : List (Kept M T V P Q R F)) → Gains q.number acts q.seen r.seen →
      talks.blame program task ≡ reason (blame rules task) →
      f.known (seen_state f q).counts.program task ≡ None → blame rules task ≡ why → error ≡ reason why →
      HasFailed f talks (seen_state f r) task error
  failed_behind rules reason program task why error p q r begun opened is_q is_r on here same loading runs
      acts gains of unknown is told =
      let behind : (seen_state f r).counts.program ≡ (seen_state f q).counts.program =
      (program_of_pass f equal q r begun is_q is_r (ap (λ (x : PassView M T V P Q R F). x.number) same)
      (gains.more, gains.is) (ap (λ s. s.running) loading) (ap (λ s. s.running) runs)).0 in
      let at : (seen_state f r).counts.program ≡ program = behind ∙ (on.program ∙ here) in (
        ap (λ x. f.known x task) behind ∙ unknown,
        told ∙ (ap reason (sym is) ∙ (sym of ∙ ap (λ x. talks.blame x task) (sym at))),
      )

  -- the same of what a section told
  pub failed_told : (rules : Rules T V B O) (reason : Cause T B O → E) (program : P) (task : T) (error : E)
      (p q r : PassView M T V P Q R F) (begun opened : ℕ) → IsPass f q → IsPass f r → LoadsOn f p q →
      (seen_state f p).counts.program ≡ program → r ≡ moved q r.row r.seen →
      q.row.seat ≡ loading_seat begun opened → r.row.seat ≡ running_seat begun →
      (acts : List (Kept M T V P Q R F)) → Gains q.number acts q.seen r.seen →
      talks.blame program task ≡ reason (blame rules task) → (ended : Option (Failure T B O))
      (failure : Failure T B O) → IfSome ended (λ x. (f.known (seen_state f q).counts.program task ≡ None)
      × (blame rules task ≡ cause x)) → ended ≡ Some failure → error ≡ reason (cause failure) →
      HasFailed f talks (seen_state f r) task error
  failed_told rules reason program task error p q r begun opened is_q is_r on here same loading runs acts gains of
      ended failure why is told =
      let both = subst (λ o. IfSome o (λ x. (f.known (seen_state f q).counts.program task ≡ None)
      × (blame rules task ≡ cause x))) is why in
      failed_behind rules reason program task (cause failure) error p q r begun opened is_q is_r on here same loading
      runs acts gains of both.0 both.1 told
