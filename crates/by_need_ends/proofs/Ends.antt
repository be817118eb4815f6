-- Every load has an end.
use Rattle.std.proofs.Common.{◌≡◌, ℕ, zero, suc, ◌≤◌, ◌<◌, List, [], ◌∷◌, ◌++◌, Option, Some, None}
use Rattle.std.proofs.Common.{Bool, true, false, cond, is_some, refl, sym, ap, ◌∙◌, subst, arith}
use Rattle.std.proofs.lemmas.Bool.{false≢true, or_right, or_left}
use Rattle.by_need.specs.Asking.{Answer, Done, Raised, Asks, Otherwise}
use Rattle.by_need.specs.Laws.{Lawful}
use Rattle.by_need.specs.Load.{Defines}
use Rattle.by_need.specs.Open.{weight, left}
use Rattle.by_need.specs.Order.{Loads, Load}
use Rattle.by_need.specs.Rounds.{Rules, Part, is_in, is_task, known}
use Rattle.by_need.proofs.Counts.{some_value, some_is}
use Rattle.by_need.proofs.Measure.{total-lt}
use Rattle.by_need.proofs.Rounds.{Part-refl, Part-trans, lacks}
use Rattle.by_need.proofs.Loads.{defines_part, defines_grows}
use Rattle.by_need.proofs.Tables.{asks_task, done_known}
use Rattle.by_need_ends.specs.Ends.{ComesToEnd}

module _ {T V E O : Type 0} (r : Rules T V E O) (laws : Lawful r) where
  -- THE MEASURE

  -- the table with one value more
  with_one : (T → Option V) → T → V → T → Option V
  with_one K t v u = cond (r.same u t) (Some v) (K u)

  -- it defines the value
  with_one_defines : (K : T → Option V) (t : T) (v : V) → Defines r K t v (with_one K t v)
  unfolding with_one
  with_one_defines K t v = record {
    new = rw (laws.same_self t) refl;
    old = λ u apart. rw apart refl;
  }

  -- a task that is opened weighs less
  weight_opens : (o : Option V) (u t : T) (ts : List T) → weight o (is_in r u (t ∷ ts)) ≤ weight o (is_in r u ts)
  weight_opens o u t ts = by o (r.same u t) (is_in r u ts) refl refl
    where
      by : (p : Option V) (a b : Bool) → r.same u t ≡ a → is_in r u ts ≡ b →
          weight p (is_in r u (t ∷ ts)) ≤ weight p (is_in r u ts)
      by (Some v) a b e f = omega arith
      by None true true e f = rw (e, f) (omega arith)
      by None true false e f = rw (e, f) (omega arith)
      by None false true e f = rw (e, f) (omega arith)
      by None false false e f = rw (e, f) (omega arith)

  -- so a load that begins leaves less to do
  opens_less : (K : T → Option V) (ts : List T) (t : T) → K t ≡ None → is_task r t ≡ true → is_in r t ts ≡ false →
      left r K (t ∷ ts) < left r K ts
  opens_less K ts t none is out =
      total-lt r laws (λ u. weight (K u) (is_in r u (t ∷ ts))) (λ u. weight (K u) (is_in r u ts))
      (λ u. weight_opens (K u) u t ts) r.tasks t is
      (rw (none, out, laws.same_self t) (omega arith))

  -- and a table that knows more, of a task that isn't open, leaves less to do
  knows_less : (K L : T → Option V) (ts : List T) (u : T) → Part K L → K u ≡ None → is_some (L u) ≡ true →
      is_task r u ≡ true → left r L ts < left r K ts
  knows_less K L ts u part none new is =
      total-lt r laws (λ x. weight (L x) (is_in r x ts)) (λ x. weight (K x) (is_in r x ts))
      (λ x. at x (K x) refl) r.tasks u is
      (let s = some_value (L u) new in rw (none, s.1) (some_less (is_in r u ts)))
    where
      some_less : (b : Bool) → 0 < weight {V = V} None b
      some_less true = omega arith
      some_less false = omega arith

      less : (o : Option V) (b : Bool) → weight o b ≤ weight {V = V} None b
      less (Some v) b = omega arith
      less None b = omega arith

      at : (x : T) (o : Option V) → K x ≡ o → weight (L x) (is_in r x ts) ≤ weight (K x) (is_in r x ts)
      at x None e = rw e (less (L x) (is_in r x ts))
      at x (Some v) e = rw (e, part.keeps x v e) (omega arith)

  -- LOADS

  -- A load of t over K, while the loads of ts are open, has an end. It keeps what the table knows and what it doesn't
  -- know of the open tasks, and where it is done t is known.
  pub record HasEnd (K : T → Option V) (ts : List T) (t : T) : Type 0 where
    pub made : List (T × V)
    pub table : T → Option V
    pub done : Bool
    pub order : Loads r K ts t made table done
    pub part : Part table (known r)
    pub grows : Part K table
    pub keeps : (u : T) → is_in r u ts ≡ true → table u ≡ K u
    pub knows : done ≡ true → is_some (table t) ≡ true

  -- a load that fails at once
  fails_at_once : (K : T → Option V) (ts : List T) (t : T) → Part K (known r) → Loads r K ts t [] K false →
      HasEnd K ts t
  fails_at_once K ts t part order = record {
    made = [];
    table = K;
    done = false;
    order = order;
    part = part;
    grows = Part-refl K;
    keeps = λ u held. refl;
    knows = λ is. absurd (false≢true is);
  }

  -- a load of a task whose run is done
  ends_here : (K : T → Option V) (ts : List T) (t : T) (v : V) → Part K (known r) → is_task r t ≡ true →
      K t ≡ None → is_in r t ts ≡ false → (r.run t K).answer ≡ Done v → HasEnd K ts t
  ends_here K ts t v part is none out answer =
      let d : Defines r K t v (with_one K t v) = with_one_defines K t v in
      record {
        made = (t, v) ∷ [];
        table = with_one K t v;
        done = true;
        order = Loads.done answer d;
        part = defines_part r laws K (with_one K t v) t v part (done_known r laws t K v part is answer) d;
        grows = defines_grows r laws K (with_one K t v) t v none d;
        keeps = λ u held. d.old u (apart u held (r.same u t) refl);
        knows = λ so. some_is _ v d.new;
      }
    where
      apart : (u : T) → is_in r u ts ≡ true → (b : Bool) → r.same u t ≡ b → r.same u t ≡ false
      apart u held true e = absurd (false≢true (sym out ∙ ap (λ x. is_in r x ts) (sym (laws.same_is u t e)) ∙ held))
      apart u held false e = e

  -- a load that waits for one that fails
  stops_behind : (K : T → Option V) (ts : List T) (t u : T) → (r.run t K).answer ≡ Asks u →
      is_in r u (t ∷ ts) ≡ false → (e : HasEnd K (t ∷ ts) u) → e.done ≡ false → HasEnd K ts t
  stops_behind K ts t u answer out e failed = record {
    made = e.made;
    table = e.table;
    done = false;
    order = Loads.stops answer out (subst (λ b. Loads r K (t ∷ ts) u e.made e.table b) failed e.order);
    part = e.part;
    grows = e.grows;
    keeps = λ x held. e.keeps x (or_right (r.same x t) (is_in r x ts) held);
    knows = λ is. absurd (false≢true is);
  }

  -- a load that runs again behind one that is done
  runs_behind : (K : T → Option V) (ts : List T) (t u : T) → (r.run t K).answer ≡ Asks u →
      is_in r u (t ∷ ts) ≡ false → (e : HasEnd K (t ∷ ts) u) → e.done ≡ true → HasEnd e.table ts t → HasEnd K ts t
  runs_behind K ts t u answer out e done more = record {
    made = e.made ++ more.made;
    table = more.table;
    done = more.done;
    order = Loads.runs_again answer out (subst (λ b. Loads r K (t ∷ ts) u e.made e.table b) done e.order) more.order;
    part = more.part;
    grows = Part-trans e.grows more.grows;
    keeps = λ x held. more.keeps x held ∙ e.keeps x (or_right (r.same x t) (is_in r x ts) held);
    knows = more.knows;
  }

  -- that loads with less left to do have ends
  abbrev pub LessEnds : ℕ → Type 0
  LessEnds n = (K : T → Option V) (ts : List T) (t : T) → left r K ts < n → Part K (known r) → is_task r t ≡ true →
      K t ≡ None → is_in r t ts ≡ false → HasEnd K ts t

  module _ (n : ℕ) (ends : LessEnds n) (K : T → Option V) (ts : List T) (t : T) (lt : left r K ts < suc n)
      (part : Part K (known r)) (is : is_task r t ≡ true) (none : K t ≡ None) (out : is_in r t ts ≡ false) where
    -- a load behind one that it waited for
    goes_behind : (u : T) → (r.run t K).answer ≡ Asks u → is_in r u (t ∷ ts) ≡ false → (e : HasEnd K (t ∷ ts) u) →
        (b : Bool) → e.done ≡ b → HasEnd K ts t
    goes_behind u answer apart e true done =
        let less : left r e.table ts < left r K ts = knows_less K e.table ts u e.grows (lacks r laws t K u answer)
        (e.knows done) (asks_task r laws t K u part answer) in
        runs_behind K ts t u answer apart e done
        (ends e.table ts t (omega (arith, less, lt)) e.part is
        (e.keeps t (or_left (r.same t t) (is_in r t ts) (laws.same_self t)) ∙ none) out)
    goes_behind u answer apart e false done = stops_behind K ts t u answer apart e done

    -- a load whose run asks for a task
    waits_first : (u : T) → (r.run t K).answer ≡ Asks u → (b : Bool) → is_in r u (t ∷ ts) ≡ b → HasEnd K ts t
    waits_first u answer true held = fails_at_once K ts t part (Loads.open_already answer held)
    waits_first u answer false apart =
        let less : left r K (t ∷ ts) < left r K ts = opens_less K ts t none is out in
        let e : HasEnd K (t ∷ ts) u = ends K (t ∷ ts) u (omega (arith, less, lt)) part
        (asks_task r laws t K u part answer) (lacks r laws t K u answer) apart in
        goes_behind u answer apart e e.done refl

    -- a load, by what its run comes to
    ends_by : (a : Answer T V E O) → (r.run t K).answer ≡ a → HasEnd K ts t
    ends_by (Done v) answer = ends_here K ts t v part is none out answer
    ends_by (Raised x) answer = fails_at_once K ts t part (Loads.raised answer)
    ends_by (Otherwise o) answer = fails_at_once K ts t part (Loads.otherwise answer)
    ends_by (Asks u) answer = waits_first u answer (is_in r u (t ∷ ts)) refl

  -- every load of a task has an end, by what is left to do
  pub loads_end : (n : ℕ) → LessEnds n
  loads_end zero K ts t lt part is none out = absurd (omega (arith, lt))
  loads_end (suc n) K ts t lt part is none out =
      ends_by n (loads_end n) K ts t lt part is none out (r.run t K).answer refl

  -- the same, whatever is left to do
  pub load_ends : (K : T → Option V) (ts : List T) (t : T) → Part K (known r) → is_task r t ≡ true → K t ≡ None →
      is_in r t ts ≡ false → HasEnd K ts t
  load_ends K ts t = loads_end (suc (left r K ts)) K ts t (omega arith)

  -- a whole load of a task has an end
  pub whole_load_ends : (t : T) (K : T → Option V) → Part K (known r) → is_task r t ≡ true → ComesToEnd r K t []
  whole_load_ends t K part is = by (K t) refl
    where
      by : (o : Option V) → K t ≡ o → ComesToEnd r K t []
      by (Some v) e = record { ahead = []; table = K; done = true; order = Load.there e }
      by None e =
          let end : HasEnd K [] t = load_ends K [] t part is e refl in
          record { ahead = end.made; table = end.table; done = end.done; order = Load.lacking e end.order }
