-- What a pass becomes in any number of connections.
use Rattle.std.specs.Prelude.{List, [], ◌∷◌, ⊤}
use Rattle.std.proofs.Common.{sym, append-nil}
use Rattle.connection_items.specs.Exchanges.{Standing, Grows}
use Rattle.connection_items.proofs.GainLaws.{grows_more}

-- The pass has seen all that it had seen, and has the items and the entries that it had.
pub record Became {I E H : Type 0} (old new : Standing I E H) : Type 0 where
  pub seen : Grows old.seen new.seen
  pub items : Grows old.items new.items
  pub entries : Grows old.entries new.entries

-- a list goes on as itself
pub grows_by_nothing : {A : Type 0} (a : List A) → Grows a a
grows_by_nothing a = ([], sym (append-nil a))

-- without a connection a pass is as it was
pub became_itself : {I E H : Type 0} (s : Standing I E H) → Became s s
became_itself s = record {
  seen = grows_by_nothing s.seen;
  items = grows_by_nothing s.items;
  entries = grows_by_nothing s.entries;
}

-- some connections and then some more are all of them
pub became_more : {I E H : Type 0} (a b c : Standing I E H) → Became a b → Became b c → Became a c
became_more a b c f m = record {
  seen = grows_more a.seen b.seen c.seen f.seen m.seen;
  items = grows_more a.items b.items c.items f.items m.items;
  entries = grows_more a.entries b.entries c.entries f.entries m.entries;
}

-- as many as before, and each one became what stands at its place
abbrev pub Pairwise : {A : Type 0} → (A → A → Type 0) → List A → List A → Type 0
Pairwise Became [] [] = ⊤
Pairwise Became [] (y ∷ ys) = ⊥
Pairwise Became (x ∷ xs) [] = ⊥
Pairwise Became (x ∷ xs) (y ∷ ys) = Became x y × Pairwise Became xs ys

-- each of these passes became what stands at its place
abbrev pub AllBecame : {S I E H : Type 0} → (S → Standing I E H) → List S → List S → Type 0
AllBecame standing before now = Pairwise (λ a b. Became (standing a) (standing b)) before now
