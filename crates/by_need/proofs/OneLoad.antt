-- A load has one order and one end.
use Rattle.std.proofs.Common.{◌≡◌, List, [], ◌∷◌, ◌++◌, Option, Bool, true, false, refl, sym, ap, ◌∙◌, subst}
use Rattle.std.proofs.lemmas.Bool.{false≢true}
use Rattle.by_need.specs.Asking.{Answer, Done, Asks}
use Rattle.by_need.specs.Rounds.{Rules, is_in}
use Rattle.by_need.specs.Laws.{Lawful}
use Rattle.by_need.specs.Load.{Defines}
use Rattle.by_need.specs.Order.{Loads, Load}

asks_one : {T V E O : Type 0} {a : Answer T V E O} {u w : T} → a ≡ Asks u → a ≡ Asks w → u ≡ w
asks_one p q = cc

done_one : {T V E O : Type 0} {a : Answer T V E O} {v w : V} → a ≡ Done v → a ≡ Done w → v ≡ w
done_one p q = cc

module _ {T V E O : Type 0} (r : Rules T V E O) (laws : Lawful r) where
  -- a define leaves one table
  defines_one : (K L M : T → Option V) (t : T) (v : V) → Defines r K t v L → Defines r K t v M → L ≡ M
  defines_one K L M t v d e = λ i x. at x (r.same x t) refl i
    where
      at : (x : T) (b : Bool) → r.same x t ≡ b → L x ≡ M x
      at x true f = let same = laws.same_is x t f in ap L same ∙ d.new ∙ sym e.new ∙ ap M (sym same)
      at x false f = d.old x f ∙ sym (e.old x f)

  -- what two loads have in common
  pub record OneEnd (ds es : List (T × V)) (L M : T → Option V) (a b : Bool) : Type 0 where
    pub order : ds ≡ es
    pub table : L ≡ M
    pub end : a ≡ b

  loads_one : {K L M : T → Option V} {ts : List T} {t : T} {ds es : List (T × V)} {a b : Bool} →
      Loads r K ts t ds L a → Loads r K ts t es M b → OneEnd ds es L M a b
  loads_one {K} {L} {M} {ts} {t} (Loads.done e d) (Loads.done f g) =
      let v = done_one e f in
      record {
        order = ap (λ x. (t, x) ∷ []) v;
        table = defines_one K L M t _ d (subst (λ x. Defines r K t x M) (sym v) g);
        end = refl;
      }
  loads_one (Loads.done e d) (Loads.raised f) = absurd cc
  loads_one (Loads.done e d) (Loads.otherwise f) = absurd cc
  loads_one (Loads.done e d) (Loads.open_already f g) = absurd cc
  loads_one (Loads.done e d) (Loads.stops f g l) = absurd cc
  loads_one (Loads.done e d) (Loads.runs_again f g l m) = absurd cc
  loads_one (Loads.raised e) (Loads.done f g) = absurd cc
  loads_one (Loads.raised e) (Loads.raised f) = record { order = refl; table = refl; end = refl }
  loads_one (Loads.raised e) (Loads.otherwise f) = absurd cc
  loads_one (Loads.raised e) (Loads.open_already f g) = absurd cc
  loads_one (Loads.raised e) (Loads.stops f g l) = absurd cc
  loads_one (Loads.raised e) (Loads.runs_again f g l m) = absurd cc
  loads_one (Loads.otherwise e) (Loads.done f g) = absurd cc
  loads_one (Loads.otherwise e) (Loads.raised f) = absurd cc
  loads_one (Loads.otherwise e) (Loads.otherwise f) = record { order = refl; table = refl; end = refl }
  loads_one (Loads.otherwise e) (Loads.open_already f g) = absurd cc
  loads_one (Loads.otherwise e) (Loads.stops f g l) = absurd cc
  loads_one (Loads.otherwise e) (Loads.runs_again f g l m) = absurd cc
  loads_one (Loads.open_already e h) (Loads.done f g) = absurd cc
  loads_one (Loads.open_already e h) (Loads.raised f) = absurd cc
  loads_one (Loads.open_already e h) (Loads.otherwise f) = absurd cc
  loads_one (Loads.open_already e h) (Loads.open_already f g) = record { order = refl; table = refl; end = refl }
  loads_one {ts = ts} {t = t} (Loads.open_already e h) (Loads.stops f g l) = absurd
      (false≢true (sym g ∙ ap (λ x. is_in r x (t ∷ ts)) (asks_one f e) ∙ h))
  loads_one {ts = ts} {t = t} (Loads.open_already e h) (Loads.runs_again f g l m) = absurd
      (false≢true (sym g ∙ ap (λ x. is_in r x (t ∷ ts)) (asks_one f e) ∙ h))
  loads_one (Loads.stops e h k) (Loads.done f g) = absurd cc
  loads_one (Loads.stops e h k) (Loads.raised f) = absurd cc
  loads_one (Loads.stops e h k) (Loads.otherwise f) = absurd cc
  loads_one {ts = ts} {t = t} (Loads.stops e h k) (Loads.open_already f g) = absurd
      (false≢true (sym h ∙ ap (λ x. is_in r x (t ∷ ts)) (asks_one e f) ∙ g))
  loads_one {K} {ts = ts} {t = t} (Loads.stops {L = L} {ds = ds} e h k) (Loads.stops {L = M} {ds = es} f g l) =
      loads_one k (subst (λ x. Loads r K (t ∷ ts) x es M false) (asks_one f e) l)
  loads_one {K} {ts = ts} {t = t} (Loads.stops {L = L} {ds = ds} e h k) (Loads.runs_again {L = M} {ds = es} f g l m) =
      absurd (false≢true (loads_one k (subst (λ x. Loads r K (t ∷ ts) x es M true) (asks_one f e) l)).end)
  loads_one (Loads.runs_again e h k n) (Loads.done f g) = absurd cc
  loads_one (Loads.runs_again e h k n) (Loads.raised f) = absurd cc
  loads_one (Loads.runs_again e h k n) (Loads.otherwise f) = absurd cc
  loads_one {ts = ts} {t = t} (Loads.runs_again e h k n) (Loads.open_already f g) = absurd
      (false≢true (sym h ∙ ap (λ x. is_in r x (t ∷ ts)) (asks_one e f) ∙ g))
  loads_one {K} {ts = ts} {t = t} (Loads.runs_again {L = L} {ds = ds} e h k n) (Loads.stops {L = M} {ds = es} f g l) =
      absurd (false≢true (sym (loads_one k (subst (λ x. Loads r K (t ∷ ts) x es M false) (asks_one f e) l)).end))
  loads_one {K} {ts = ts} {t = t} (Loads.runs_again {L = L} {M = L'} {ds = ds} {more = more} {b = a} e h k n)
      (Loads.runs_again {L = M} {M = M'} {ds = es} {more = rest} {b = b} f g l m) =
      let one = loads_one k (subst (λ x. Loads r K (t ∷ ts) x es M true) (asks_one f e) l) in
      let two = loads_one n (subst (λ X. Loads r X ts t rest M' b) (sym one.table) m) in
      record {
        order = ap (λ xs. xs ++ more) one.order ∙ ap (λ ys. es ++ ys) two.order;
        table = two.table;
        end = two.end;
      }

  -- a load over a table has one order of defines, one table and one end
  pub load_one : {K L M : T → Option V} {t : T} {ds es : List (T × V)} {a b : Bool} → Load r K t ds L a →
      Load r K t es M b → OneEnd ds es L M a b
  load_one (Load.there e) (Load.there f) = record { order = refl; table = refl; end = refl }
  load_one (Load.there e) (Load.lacking f l) = absurd cc
  load_one (Load.lacking e k) (Load.there f) = absurd cc
  load_one (Load.lacking e k) (Load.lacking f l) = loads_one k l
