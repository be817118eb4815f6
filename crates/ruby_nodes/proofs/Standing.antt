-- What stands in a table still stands there after more nodes.
use Rattle.std.proofs.Common.{◌≡◌, ℕ, ◌<◌, List, [], ◌∷◌, ◌++◌, length, refl, sym, ap, subst, ◌∙◌}
use Rattle.std.proofs.Common.{arith, append-nil, append_assoc, length-append}
use Rattle.std.proofs.Math.Seq.{get_or-append_seam}
use Rattle.ruby_nodes.specs.declared.table.Node.{Node}
use Rattle.ruby_nodes.specs.Entries.{Entry, no_entry, entries, entry_at, entry_of, Extends, Stands}
use Rattle.ruby_nodes.proofs.Lookup.{entry_at_append_left, entries_from_push, length_entries_from}

-- a table has all of itself
pub Extends_refl : (known : List Entry) → Extends known known
Extends_refl known = record { rest = []; is = sym (append-nil known) }

-- one entry more
pub Extends_push : (known : List Entry) (entry : Entry) → Extends known (known ++ entry ∷ [])
Extends_push known entry = record { rest = entry ∷ []; is = refl }

-- entries are added step by step
pub Extends_trans : {a b c : List Entry} → Extends a b → Extends b c → Extends a c
Extends_trans {a} {b} {c} p q =
    record { rest = p.rest ++ q.rest; is = q.is ∙ (ap (λ l. l ++ q.rest) p.is ∙ append_assoc a p.rest q.rest) }

-- what is added last stands at the end
pub Stands_push : (known : List Entry) (entry : Entry) → Stands (known ++ entry ∷ []) (length known) entry
Stands_push known entry = record {
  within = omega (arith, length-append known (entry ∷ []));
  is = get_or-append_seam known entry [] no_entry;
}

-- what stands somewhere stands there after more entries
pub Stands_later : {a b : List Entry} {i : ℕ} {entry : Entry} → Extends a b → Stands a i entry → Stands b i entry
Stands_later {a} {b} {i} {entry} p s = record {
  within = rw p.is (omega (arith, length-append a p.rest, s.within));
  is = rw p.is (entry_at_append_left a p.rest i s.within ∙ s.is);
}

-- a number that a node has keeps what it stands for
pub entry_at_later : {a b : List Entry} (i : ℕ) → Extends a b → i < length a → entry_at b i ≡ entry_at a i
entry_at_later {a} {b} i p lt = rw p.is (entry_at_append_left a p.rest i lt)

-- and is still there
pub is_there_later : {a b : List Entry} (i : ℕ) → Extends a b → i < length a → i < length b
is_there_later {a} {b} i p lt = rw p.is (omega (arith, length-append a p.rest, lt))

-- a table whose nodes are one more has all that it had
pub Extends_pushed : (ns more : List Node) (n : Node) (known : List Entry) → entries ns ≡ known → more ≡ ns ++ n ∷ [] →
    Extends known (entries more)
Extends_pushed ns more n known is all =
    rw (← is, all, entries_from_push [] ns n) (Extends_push (entries ns) (entry_of (entries ns) n))

-- and the last of them stands for its level
pub Stands_pushed : (ns more : List Node) (n : Node) (at : ℕ) (known : List Entry) → entries ns ≡ known →
    more ≡ ns ++ n ∷ [] → at ≡ length ns → Stands (entries more) at (entry_of known n)
Stands_pushed ns more n at known is all last =
    let at_end : at ≡ length (entries ns) = omega (arith, last, length_entries_from [] ns) in
    subst (λ i. Stands (entries more) i (entry_of known n)) (sym at_end)
    (rw (← is, all, entries_from_push [] ns n) (Stands_push (entries ns) (entry_of (entries ns) n)))
