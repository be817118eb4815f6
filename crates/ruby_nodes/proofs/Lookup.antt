-- A node of a table stands for its level over what its children stand for.
use Rattle.std.proofs.Common.{◌≡◌, ℕ, zero, suc, ◌+◌, ◌<◌, List, [], ◌∷◌, ◌++◌, length, get_or, refl, sym}
use Rattle.std.proofs.Common.{subst, ◌∙◌, arith, append-nil, append_assoc, length-append}
use Rattle.std.proofs.lemmas.List.{get_or_append_left}
use Rattle.std.proofs.Math.Seq.{get_or-append_seam}
use Rattle.ruby_nodes.specs.declared.table.Node.{Node}
use Rattle.ruby_nodes.specs.declared.table.Node.TheVariants as node
use Rattle.ruby_nodes.specs.Entries.{Entry, no_entry, entry_at, entry_of, entries_from, Below, BelowAll}

-- what is known is the beginning of all that is known after more nodes
pub entries_begin_with_known : (known : List Entry) (ns : List Node) →
    (rest : List Entry) × (entries_from known ns ≡ known ++ rest)
entries_begin_with_known known [] = ([], sym (append-nil known))
entries_begin_with_known known (n ∷ more) =
    let i = entries_begin_with_known (known ++ entry_of known n ∷ []) more in
    (entry_of known n ∷ i.0, i.1 ∙ append_assoc known (entry_of known n ∷ []) i.0)

-- what a number stands for is the same after more nodes
pub entry_at_append_left : (known rest : List Entry) (i : ℕ) → i < length known →
    entry_at (known ++ rest) i ≡ entry_at known i
entry_at_append_left known rest i lt = get_or_append_left known rest no_entry i lt

-- what a node stands for is the same after more nodes
pub entry_of_append_left : (known rest : List Entry) (n : Node) → Below (length known) n →
    entry_of (known ++ rest) n ≡ entry_of known n
entry_of_append_left known rest n b = at n b
  where
    keeps : (i : ℕ) → i < length known → entry_at (known ++ rest) i ≡ entry_at known i
    keeps = entry_at_append_left known rest

    at : (n : Node) → Below (length known) n → entry_of (known ++ rest) n ≡ entry_of known n
    at node.Nil b = refl
    at node.True b = refl
    at node.False b = refl
    at node.SelfRef b = refl
    at (node.Int n) b = refl
    at (node.Str x) b = rw (keeps x b) refl
    at (node.Sym name) b = refl
    at (node.Local name) b = refl
    at (node.Ivar name) b = refl
    at (node.Const constant) b = refl
    at (node.Array x) b = rw (keeps x b) refl
    at (node.Hash x) b = rw (keeps x b) refl
    at (node.OwnCall name x) b = rw (keeps x b) refl
    at (node.Call x name y) b = rw (keeps x b.0, keeps y b.1) refl
    at (node.Not x) b = rw (keeps x b) refl
    at (node.And x y) b = rw (keeps x b.0, keeps y b.1) refl
    at (node.Or x y) b = rw (keeps x b.0, keeps y b.1) refl
    at (node.Choose x y z) b = rw (keeps x b.0, keeps y b.1, keeps z b.2) refl
    at (node.Item x y) b = rw (keeps x b.0, keeps y b.1) refl
    at (node.Pair x y z) b = rw (keeps x b.0, keeps y b.1, keeps z b.2) refl
    at (node.Plain bytes x) b = rw (keeps x b) refl
    at (node.Inside x y) b = rw (keeps x b.0, keeps y b.1) refl
    at (node.Expr x y) b = rw (keeps x b.0, keeps y b.1) refl
    at (node.Set name x y) b = rw (keeps x b.0, keeps y b.1) refl
    at (node.SetIvar name x y) b = rw (keeps x b.0, keeps y b.1) refl
    at (node.Return x y) b = rw (keeps x b.0, keeps y b.1) refl
    at (node.ReturnNil x) b = rw (keeps x b) refl
    at (node.Raise x y) b = rw (keeps x b.0, keeps y b.1) refl
    at (node.If x y a z) b = rw (keeps x b.0, keeps y b.1, keeps z b.2) refl
    at (node.Arm x y z) b = rw (keeps x b.0, keeps y b.1, keeps z b.2) refl
    at node.End b = refl

entry_at_from : (known : List Entry) (ns : List Node) (i j : ℕ) (d : Node) → i < length ns → j ≡ length known + i →
    BelowAll (length known) ns → entry_at (entries_from known ns) j ≡ entry_of (entries_from known ns) (get_or ns i d)
entry_at_from known [] i j d lt is b = absurd (omega arith)
entry_at_from known (n ∷ more) zero j d lt is b =
    let p = entries_begin_with_known (known ++ entry_of known n ∷ []) more in
    let all : entries_from (known ++ entry_of known n ∷ []) more ≡ known ++ entry_of known n ∷ p.0 =
    p.1 ∙ append_assoc known (entry_of known n ∷ []) p.0 in
    let at : j ≡ length known = omega (arith, is) in
    rw (all, at, get_or-append_seam known (entry_of known n) p.0 no_entry)
    (sym (entry_of_append_left known (entry_of known n ∷ p.0) n b.0))
entry_at_from known (n ∷ more) (suc i) j d lt is b =
    let one : length (known ++ entry_of known n ∷ []) ≡ suc (length known) =
    omega (arith, length-append known (entry_of known n ∷ [])) in
    entry_at_from (known ++ entry_of known n ∷ []) more i j d (omega (arith, lt)) (omega (arith, one, is))
    (subst (λ k. BelowAll k more) (sym one) b.1)

-- what a number stands for is what its node stands for, over the whole table
pub entry_at_is_entry_of_node : (ns : List Node) (i : ℕ) (d : Node) → i < length ns → BelowAll 0 ns →
    entry_at (entries_from [] ns) i ≡ entry_of (entries_from [] ns) (get_or ns i d)
entry_at_is_entry_of_node ns i d lt b = entry_at_from [] ns i i d lt (omega arith) b

-- a node more is an entry more
pub entries_from_push : (known : List Entry) (ns : List Node) (n : Node) →
    entries_from known (ns ++ n ∷ []) ≡ entries_from known ns ++ entry_of (entries_from known ns) n ∷ []
entries_from_push known [] n = refl
entries_from_push known (x ∷ ns) n = entries_from_push (known ++ entry_of known x ∷ []) ns n

-- each node is one entry
pub length_entries_from : (known : List Entry) (ns : List Node) →
    length (entries_from known ns) ≡ length known + length ns
length_entries_from known [] = omega arith
length_entries_from known (n ∷ ns) =
    omega (arith, length_entries_from (known ++ entry_of known n ∷ []) ns, length-append known (entry_of known n ∷ []))

-- a node whose children stand before it can be added
pub BelowAll_push : (k : ℕ) (ns : List Node) (n : Node) (all : ℕ) → all ≡ k + length ns → BelowAll k ns →
    Below all n → BelowAll k (ns ++ n ∷ [])
BelowAll_push k [] n all is b h = (subst (λ i. Below i n) (omega (arith, is)) h, tt)
BelowAll_push k (x ∷ ns) n all is b h = (b.0, BelowAll_push (suc k) ns n all (omega (arith, is)) b.1 h)

-- the children of a node have numbers below its own
pub BelowAll_at : (k : ℕ) (ns : List Node) (i j : ℕ) (d : Node) → i < length ns → j ≡ k + i → BelowAll k ns →
    Below j (get_or ns i d)
BelowAll_at k [] i j d lt is b = absurd (omega arith)
BelowAll_at k (n ∷ more) zero j d lt is b = subst (λ a. Below a n) (omega (arith, is)) b.0
BelowAll_at k (n ∷ more) (suc i) j d lt is b =
    BelowAll_at (suc k) more i j d (omega (arith, lt)) (omega (arith, is)) b.1
