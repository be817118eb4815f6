-- The fields after an event.
use Rattle.std.proofs.Common.{◌≡◌, ℕ, zero, suc, ◌+◌, ◌<◌, ◌≤◌, List, [], ◌∷◌, ◌++◌, length, length-append}
use Rattle.std.proofs.Common.{append_assoc}
use Rattle.std.proofs.Common.{Option, Some, None, true, false, not, cond, nat_lt, is_some, slice_get}
use Rattle.std.proofs.Common.{refl, sym}
use Rattle.std.proofs.Common.{ap, ◌∙◌, subst, arith}
use Rattle.std.proofs.lemmas.Bool.{ltb-true, not-false}
use Rattle.system_seats.specs.Seats.{Seats, seats_at_rest}
use Rattle.system_seats.specs.Guards.{reload_guard}
use Rattle.system_seats.proofs.From.{guard_false}
use Rattle.system_events.specs.declared.event.Cause.{Cause}
use Rattle.system_events.specs.declared.event.Cause.TheVariants.{Memory}
use Rattle.system_events.specs.declared.event.Act.{Act}
use Rattle.system_events.specs.declared.event.Act.TheVariants.{Define as Act-Define, Reload as Act-Reload}
use Rattle.system_events.specs.declared.event.Entry.{Entry}
use Rattle.system_events.specs.declared.event.Kept.{Kept}
use Rattle.system_events.specs.declared.event.Kept.TheVariants.{Define, Reload, Begin, Refuse}
use Rattle.system_events.specs.declared.event.Counts.{Counts}
use Rattle.system_events.specs.Facts.{Facts}
use Rattle.system_events.specs.State.{State}
use Rattle.system_events.specs.Guards.{guard_of, reload_limits, request_limits}
use Rattle.system_events.specs.Steps.{effect, seats_after, counts_after, table_after, pair_of, kept_of, value_of}
use Rattle.system_events.specs.Steps.{IsKnown}
use Rattle.system_events.specs.Steps.{Condition}
use Rattle.system_events.specs.Legal.{opening, start, IsAfter}
use Rattle.system_laws.proofs.Tidy.{second_none}
use Rattle.system_laws.proofs.Keeps.{after-push}
use Rattle.system_core.specs.declared.fact.Fact.{Fact}
use Rattle.system_core.specs.Tables.{with_value, entry_task, fact_task, pair_at, table_of, IsPlaced, new_fact}
use Rattle.system_core.specs.Tables.{facts_after}
use Rattle.system_core.specs.Tables.{hash_of, hashes_of, new_hash, hashes_after}
use Rattle.system_core.specs.Keeping.{Book, values_used, state_of, CountsFit, IsKept}

-- PLACES

get_grown : {A : Type 0} (es xs : List A) (place : ℕ) → place < length es →
    slice_get (es ++ xs) place ≡ slice_get es place
get_grown [] xs place below = absurd (omega (arith, below))
get_grown (e ∷ es) xs zero below = refl
get_grown (e ∷ es) xs (suc place) below = get_grown es xs place (omega (arith, below))

get_new : {A : Type 0} (es : List A) (e : A) → slice_get (es ++ e ∷ []) (length es) ≡ Some e
get_new [] e = refl
get_new (x ∷ es) e = get_new es e

module _ {M T V P Q R F : Type 0} where
  placed-push : (es : List (Entry M T V P Q R F)) (e : Entry M T V P Q R F) (fs : List (Fact M T V P Q R F)) →
      IsPlaced es fs → IsPlaced (es ++ e ∷ []) fs
  placed-push es e [] placed = tt
  placed-push es e (x ∷ fs) placed =
      let longer : length (es ++ e ∷ []) ≡ length es + 1 = length-append es (e ∷ []) in
      let before : x.place < length es = placed.0 in
      (omega (arith, longer, before), placed-push es e fs placed.1)

  placed-append : (es : List (Entry M T V P Q R F)) (fs gs : List (Fact M T V P Q R F)) → IsPlaced es fs →
      IsPlaced es gs → IsPlaced es (fs ++ gs)
  placed-append es [] gs a b = b
  placed-append es (x ∷ fs) gs a b = (a.0, placed-append es fs gs a.1 b)

  placed_new : (es : List (Entry M T V P Q R F)) (e : Entry M T V P Q R F) (fs : List (Fact M T V P Q R F))
      (o : Option V) → IsPlaced es fs → IsPlaced (es ++ e ∷ []) (fs ++ new_fact (length es) o)
  placed_new es e fs None placed = placed-append (es ++ e ∷ []) fs [] (placed-push es e fs placed) tt
  placed_new es e fs (Some value) placed =
      let longer : length (es ++ e ∷ []) ≡ length es + 1 = length-append es (e ∷ []) in
      placed-append (es ++ e ∷ []) fs (new_fact (length es) (Some value)) (placed-push es e fs placed)
      (omega (arith, longer), tt)

  -- the facts' places are places of the history still
  pub placed_after : (es : List (Entry M T V P Q R F)) (k : ℕ) (fs : List (Fact M T V P Q R F))
      (kept : Kept M T V P Q R F) (value : Option V) → IsPlaced es fs →
      IsPlaced (es ++ (record { seat = k; kept = kept }) ∷ []) (facts_after fs kept value (length es))
  placed_after es k fs (Define task) value placed = placed_new es _ fs value placed
  placed_after es k fs (Reload program) value placed = tt
  placed_after es k fs _ value placed = placed-push es _ fs placed

  -- a fact's task stays when the history grows
  task_kept : (es : List (Entry M T V P Q R F)) (e : Entry M T V P Q R F) (x : Fact M T V P Q R F) →
      x.place < length es → fact_task (es ++ e ∷ []) x ≡ fact_task es x
  task_kept es e x below = ap entry_task (get_grown es (e ∷ []) x.place below)

  -- THE TABLE

  table-push : (es : List (Entry M T V P Q R F)) (e : Entry M T V P Q R F) (fs : List (Fact M T V P Q R F)) →
      IsPlaced es fs → table_of (es ++ e ∷ []) fs ≡ table_of es fs
  table-push es e [] placed = refl
  table-push es e (x ∷ fs) placed =
      λ i. with_value x.value (task_kept es e x placed.0 i) ++ table-push es e fs placed.1 i

  table-append : (es : List (Entry M T V P Q R F)) (fs gs : List (Fact M T V P Q R F)) →
      table_of es (fs ++ gs) ≡ table_of es fs ++ table_of es gs
  table-append es [] gs = refl
  table-append es (x ∷ fs) gs =
      ap (λ xs. pair_at es x ++ xs) (table-append es fs gs)
      ∙ sym (append_assoc (pair_at es x) (table_of es fs) (table_of es gs))

module _ {M T V P Q R F : Type 0} (f : Facts T V P Q R F) where
  table_define : (es : List (Entry M T V P Q R F)) (k : ℕ) (fs : List (Fact M T V P Q R F)) (program : P) (task : T)
      (value : V) → IsPlaced es fs → f.known program task ≡ Some value →
      table_of (es ++ (record { seat = k; kept = Define task }) ∷ []) (fs ++ new_fact (length es) (Some value))
      ≡ table_of es fs ++ pair_of task (f.known program task)
  table_define es k fs program task value placed known =
      let e : Entry M T V P Q R F = record { seat = k; kept = Define task } in
      let new : table_of (es ++ e ∷ []) (new_fact (length es) (Some value)) ≡ (task, value) ∷ [] =
      ap (λ o. with_value value (entry_task o) ++ []) (get_new es e) in
      table-append (es ++ e ∷ []) fs (new_fact (length es) (Some value))
      ∙ ((λ i. table-push es e fs placed i ++ new i) ∙ ap (λ o. table_of es fs ++ pair_of task o) (sym known))

  -- the facts stand for the table after the event
  pub table_step : (es : List (Entry M T V P Q R F)) (seats : Seats) (k : ℕ) (fs : List (Fact M T V P Q R F))
      (c : Counts M T V P Q R F) (act : Act M T V P Q R F) → IsPlaced es fs → IsKnown f (state_of es seats fs c) act →
      table_of (es ++ (record { seat = k; kept = kept_of act }) ∷ [])
      (facts_after fs (kept_of act) (value_of act) (length es))
      ≡ table_after f c.program (table_of es fs) (kept_of act)
  table_step es seats k fs c (Act-Define task value) placed known =
      table_define es k fs c.program task value placed known
  table_step es seats k fs c (Act-Reload program) placed known = refl
  table_step es seats k fs c _ placed known = table-push es _ fs placed

  -- THE HASHES

  hashes-push : (es : List (Entry M T V P Q R F)) (e : Entry M T V P Q R F) (fs : List (Fact M T V P Q R F)) →
      IsPlaced es fs → hashes_of f (es ++ e ∷ []) fs ≡ hashes_of f es fs
  hashes-push es e [] placed = refl
  hashes-push es e (x ∷ fs) placed =
      λ i. hash_of f (task_kept es e x placed.0 i) ∷ hashes-push es e fs placed.1 i

  hashes-append : (es : List (Entry M T V P Q R F)) (fs gs : List (Fact M T V P Q R F)) →
      hashes_of f es (fs ++ gs) ≡ hashes_of f es fs ++ hashes_of f es gs
  hashes-append es [] gs = refl
  hashes-append es (x ∷ fs) gs = ap (λ xs. hash_of f (fact_task es x) ∷ xs) (hashes-append es fs gs)

  hashes_define : (es : List (Entry M T V P Q R F)) (k : ℕ) (fs : List (Fact M T V P Q R F)) (task : T)
      (o : Option V) → IsPlaced es fs →
      hashes_of f (es ++ (record { seat = k; kept = Define task }) ∷ []) (fs ++ new_fact (length es) o)
      ≡ hashes_of f es fs ++ new_hash f task o
  hashes_define es k fs task None placed =
      let e : Entry M T V P Q R F = record { seat = k; kept = Define task } in
      hashes-append (es ++ e ∷ []) fs [] ∙ ap (λ hs. hs ++ []) (hashes-push es e fs placed)
  hashes_define es k fs task (Some value) placed =
      let e : Entry M T V P Q R F = record { seat = k; kept = Define task } in
      hashes-append (es ++ e ∷ []) fs (new_fact (length es) (Some value))
      ∙ (λ i. hashes-push es e fs placed i ++ (hash_of f (entry_task (get_new es e i)) ∷ []))

  -- the hashes are those of the facts' tasks still
  pub hashes_step : (es : List (Entry M T V P Q R F)) (k : ℕ) (fs : List (Fact M T V P Q R F))
      (kept : Kept M T V P Q R F) (value : Option V) → IsPlaced es fs →
      hashes_of f (es ++ (record { seat = k; kept = kept }) ∷ []) (facts_after fs kept value (length es))
      ≡ hashes_after f (hashes_of f es fs) kept value
  hashes_step es k fs (Define task) value placed = hashes_define es k fs task value placed
  hashes_step es k fs (Reload program) value placed = refl
  hashes_step es k fs _ value placed = hashes-push es _ fs placed

-- THE COUNTS

below_limit : (n limit : ℕ) → not (nat_lt n limit) ≡ false → n < limit
below_limit n limit p = ltb-true n limit (not-false (nat_lt n limit) p)

few_requests : {M T V P Q R F : Type 0} (c : Counts M T V P Q R F) → request_limits c ≡ None → c.requests < 100000
few_requests c p = below_limit _ _ (guard_false _ _ _ p).0

module _ {M T V P Q R F : Type 0} (f : Facts T V P Q R F) where
  few_reloads : (c : Counts M T V P Q R F) (program : P) → reload_limits f c program ≡ None → c.generation < 4096
  few_reloads c program p = below_limit _ _ (guard_false _ _ _ (guard_false _ _ _ p).1).0

  more_requests : (c : Counts M T V P Q R F) → CountsFit c → c.requests < 100000 →
      CountsFit (record c { requests = c.requests + 1 })
  more_requests c fit few = (fit.0, omega (arith, few))

  fit_refuse : (s : State M T V P Q R F) (k : ℕ) (cause : Cause M T V P Q R F) → CountsFit s.counts →
      guard_of f s k (Refuse cause) ≡ None → CountsFit (counts_after f s.counts (Refuse cause))
  fit_refuse s k Memory fit p = fit
  fit_refuse s k _ fit p = more_requests s.counts fit (few_requests s.counts (guard_false _ _ _ p).1)

  -- there are no more generations and requests than there may be
  pub fit_after : (s : State M T V P Q R F) (k : ℕ) (kept : Kept M T V P Q R F) → CountsFit s.counts →
      guard_of f s k kept ≡ None → CountsFit (counts_after f s.counts kept)
  fit_after s k (Reload program) fit p =
      let few : s.counts.generation < 4096 =
      few_reloads s.counts program (second_none (reload_guard s.seats k) _ p) in
      (omega (arith, few), fit.1)
  fit_after s k (Begin request) fit p = more_requests s.counts fit (few_requests s.counts (second_none _ _ p))
  fit_after s k (Refuse cause) fit p = fit_refuse s k cause fit p
  fit_after s k _ fit p = fit

-- ROOM

module _ {M T V P Q R F : Type 0} where
  -- an act uses room for a value exactly where it has one
  pub used_is : (act : Act M T V P Q R F) → values_used act ≡ cond (is_some (value_of act)) 1 0
  used_is (Act-Define task value) = refl
  used_is _ = refl

  -- where there is a value there is room for it
  pub some_room : (act : Act M T V P Q R F) (value : Option V) (n : ℕ) → value ≡ value_of act → values_used act ≤ n →
      is_some value ≡ true → 0 < n
  some_room act value n is room some =
      let one : values_used act ≡ 1 = used_is act ∙ ap (λ b. cond b 1 0) (ap is_some (sym is) ∙ some) in
      omega (arith, one, room)

-- ALL FIELDS

module _ {M T V P Q R F : Type 0} (f : Facts T V P Q R F) where
  -- a new system's fields
  pub kept_new : (es : List (Entry M T V P Q R F)) (seats : Seats) (fs : List (Fact M T V P Q R F)) (hs : List ℕ)
      (c : Counts M T V P Q R F) (n : ℕ) → es ≡ opening f ∷ [] → seats ≡ seats_at_rest n → fs ≡ [] → hs ≡ [] →
      c ≡ record { generation = 0; program = f.empty; requests = 0; reply_bytes = 0; changed_bytes = 0 } →
      IsKept f es seats fs hs c × (state_of es seats fs c ≡ start f n)
  kept_new es seats fs hs c n is_es is_seats is_fs is_hs is_c =
      let same : state_of es seats fs c ≡ start f n = λ i. record {
        history = is_es i;
        seats = is_seats i;
        table = table_of (is_es i) (is_fs i);
        counts = is_c i;
      } in (
        record {
          placed = subst (IsPlaced es) (sym is_fs) tt;
          hashed = is_hs ∙ ap (hashes_of f es) (sym is_fs);
          fit = subst CountsFit (sym is_c) (omega arith, omega arith);
          number = n;
          after = subst (IsAfter f n) (sym same) (record {
            legal = record { entries = []; opens = refl; steps = tt };
            state = refl;
          });
        },
        same,
      )

  -- the fields after an event whose guards pass
  pub kept_after : (es es' : List (Entry M T V P Q R F)) (seats seats' : Seats) (fs fs' : List (Fact M T V P Q R F))
      (hs hs' : List ℕ) (c c' : Counts M T V P Q R F) (v : Book M T V P Q R F) (room values place k : ℕ)
      (act : Act M T V P Q R F) (kept : Kept M T V P Q R F) (value : Option V) →
      record { state = state_of es seats fs c; room = room; values = values } ≡ v → IsKept f es seats fs hs c →
      k < length v.state.seats.lock.rows → guard_of f v.state k (kept_of act) ≡ None →
      Condition f v.state k (kept_of act) → IsKnown f v.state act → kept ≡ kept_of act → value ≡ value_of act →
      place ≡ length es → es' ≡ es ++ (record { seat = k; kept = kept }) ∷ [] →
      seats' ≡ seats_after seats place k kept → fs' ≡ facts_after fs kept value place →
      hs' ≡ hashes_after f hs kept value → c' ≡ counts_after f c kept →
      IsKept f es' seats' fs' hs' c' × (state_of es' seats' fs' c' ≡ effect f v.state k (kept_of act))
  kept_after es es' seats seats' fs fs' hs hs' c c' v room values place k act kept value view is below passed allowed
      known is_kept is_value is_place is_es is_seats is_fs is_hs is_c =
      let s : State M T V P Q R F = state_of es seats fs c in
      let back : v.state ≡ s = ap (λ (b : Book M T V P Q R F). b.state) (sym view) in
      let new : Kept M T V P Q R F = kept_of act in
      let e : Entry M T V P Q R F = record { seat = k; kept = new } in
      let entries : es' ≡ es ++ e ∷ [] = is_es ∙ ap (λ x. es ++ (record { seat = k; kept = x }) ∷ []) is_kept in
      let moved : seats' ≡ seats_after seats (length es) k new =
      is_seats ∙ (λ i. seats_after seats (is_place i) k (is_kept i)) in
      let facts : fs' ≡ facts_after fs new (value_of act) (length es) =
      is_fs ∙ (λ i. facts_after fs (is_kept i) (is_value i) (is_place i)) in
      let counted : c' ≡ counts_after f c new = is_c ∙ ap (counts_after f c) is_kept in
      let hashed : hs' ≡ hashes_of f es' fs' =
      is_hs ∙ ((λ i. hashes_after f (is.hashed i) (is_kept i) (is_value i))
      ∙ (sym (hashes_step f es k fs new (value_of act) is.placed)
      ∙ (λ i. hashes_of f (sym entries i) (sym facts i)))) in
      let tables : table_of es' fs' ≡ table_after f c.program (table_of es fs) new =
      (λ i. table_of (entries i) (facts i))
      ∙ table_step f es seats k fs c act is.placed (subst (λ x. IsKnown f x act) back known) in
      let same : state_of es' seats' fs' c' ≡ effect f s k new =
      λ i. record { history = entries i; seats = moved i; table = tables i; counts = counted i } in
      let passes : guard_of f s k new ≡ None = subst (λ x. guard_of f x k new ≡ None) back passed in (
        record {
          placed = subst (λ x. IsPlaced x fs') (sym entries) (subst (λ x. IsPlaced (es ++ e ∷ []) x) (sym facts)
              (placed_after es k fs new (value_of act) is.placed));
          hashed = hashed;
          fit = subst CountsFit (sym counted) (fit_after f s k new is.fit passes);
          number = is.number;
          after = subst (IsAfter f is.number) (sym same) (after-push f is.number s e is.after (record {
            seated = subst (λ x. k < length x.seats.lock.rows) back below;
            passes = passes;
            allowed = subst (λ x. Condition f x k new) back allowed;
            is = refl;
          }));
        },
        same ∙ ap (λ x. effect f x k new) (sym back),
      )
