-- The kind of a first fault: what reading a file's words stops at is its first fault, of that kind and no other.
use Rattle.std.proofs.Common.{◌≡◌, ℕ, zero, suc, ◌+◌, Bool, true, false, List, [], ◌∷◌, ◌++◌, refl, sym, ap, ◌∙◌, subst}
use Rattle.std.proofs.Common.{arith, if◌then◌else◌}
use Rattle.std.proofs.lemmas.List.{append_cancel_right}
use Rattle.ruby_types.specs.declared.tree.FileTree.{FileTree}
use Rattle.descent.specs.Grammar.{only}
use Rattle.descent.specs.Faults.{Begins, Stuck, Stops}
use Rattle.descent.specs.Reading.{Outcome, done, fault, Why, Unexpected, Deep, Barred, Twice, Reads}
use Rattle.descent.proofs.Theorems as t
use Rattle.descent.proofs.Theorems.{IsStop, rest_of}
use Rattle.descent.proofs.Lifts.{Kept}
use Rattle.descent.proofs.Besides.{begins_beside, reads_beside, begins_next}
use Rattle.descent.proofs.Fronts as front
use Rattle.ruby_grammar.specs.Words.{Word}
use Rattle.ruby_grammar.specs.Terminals.{is_left_out}
use Rattle.ruby_grammar.specs.Marks.{Mark}
use Rattle.ruby_grammar.specs.Rules.{ruby, Rule, a_tree, file}
use Rattle.ruby_grammar.specs.Language.{ruby_grammar, IsFile, most_levels}
use Rattle.ruby_grammar.specs.Choices.{ruby_choices}
use Rattle.ruby_grammar.specs.Follow.{ruby_follow}
use Rattle.ruby_grammar.specs.Faults.{Kind, expected, not_in_profile, too_deep, place, BeginsAtAnyDepth, KindAt, deep}
use Rattle.ruby_grammar.specs.Faults.{left_out, barred, other, ended, FirstFault, twice, at_word}
use Rattle.ruby_grammar.specs.Answers.{ReadsFile, IsFault, kind_of_next, fault_kind, fault_place}
use Rattle.ruby_grammar.proofs.Beside.{a_level, settings, ruby_lift}
use Rattle.ruby_grammar.proofs.Lifted.{lifts}
use Rattle.ruby_grammar.proofs.LeftOut.{begins_inside}
use Rattle.ruby_grammar.proofs.Law.{lawful}
use Rattle.ruby_grammar.proofs.Exact as exact

-- ---- more levels

abbrev deeper : ℕ → ℕ → ℕ
deeper zero n = n
deeper (suc k) n = suc (deeper k n)

deeper_sum : (k n : ℕ) → deeper k n ≡ k + n
deeper_sum zero n = omega arith
deeper_sum (suc k) n = omega (arith, deeper_sum k n)

deeper_both : (k n : ℕ) → deeper k n ≡ deeper n k
deeper_both k n = omega (arith, deeper_sum k n, deeper_sum n k)

abbrev ReadsAt : ℕ → Bool → List Word → Outcome ruby a_tree → Type 0
ReadsAt levels anywhere ws o = Reads ruby_grammar ruby_choices a_tree (only (file levels anywhere)) [] ws o

begins_deeper : (k levels : ℕ) (anywhere : Bool) (ws : List Word) → Begins ruby_grammar (file levels anywhere) ws →
    Begins ruby_grammar (file (deeper k levels) anywhere) ws
begins_deeper zero levels anywhere ws h = h
begins_deeper (suc k) levels anywhere ws h = begins_beside ruby_grammar ruby_choices (ruby_lift a_level)
    (lifts a_level) (file (deeper k levels) anywhere) ws (begins_deeper k levels anywhere ws h)

reads_deeper : (k levels : ℕ) (anywhere : Bool) (ws : List Word) (o : Outcome ruby a_tree) →
    ReadsAt levels anywhere ws o → Kept (ruby_lift a_level) o → ReadsAt (deeper k levels) anywhere ws o
reads_deeper zero levels anywhere ws o a h = a
reads_deeper (suc k) levels anywhere ws o a h = reads_beside ruby_grammar ruby_choices (ruby_lift a_level)
    (lifts a_level) (file (deeper k levels) anywhere) ws o (reads_deeper k levels anywhere ws o a h) h

-- what stops for another reason than its depth stops at any depth
stuck_at_any_depth : (levels : ℕ) (anywhere : Bool) (ws used : List Word) (w : Word) (rest : List Word)
    (o : Outcome ruby a_tree) →
    ReadsAt levels anywhere ws o → Kept (ruby_lift a_level) o → IsStop o → rest_of o ≡ w ∷ rest →
    ws ≡ used ++ w ∷ rest → BeginsAtAnyDepth anywhere (used ++ w ∷ []) → ⊥
stuck_at_any_depth levels anywhere ws used w rest o a h stop r e b =
    let n = deeper b.0 levels in
    let st = t.stops ruby_grammar ruby_choices ruby_follow lawful (file n anywhere) refl ws o
    (reads_deeper b.0 levels anywhere ws o a h) stop in
    let same = append_cancel_right st.used used (w ∷ rest) (sym (subst (λ l. ws ≡ st.used ++ l) r st.whole) ∙ e) in
    let stuck = subst (λ l. Stuck ruby_grammar (file n anywhere) l (w ∷ rest)) same
    (subst (λ l. Stuck ruby_grammar (file n anywhere) st.used l) r st.stuck) in
    stuck (subst (λ k. Begins ruby_grammar (file k anywhere) (used ++ w ∷ [])) (deeper_both levels b.0)
    (begins_deeper levels b.0 anywhere (used ++ w ∷ []) b.1))

-- ---- settings

begins_anywhere : (ws : List Word) → BeginsAtAnyDepth false ws → BeginsAtAnyDepth true ws
begins_anywhere ws b = (
  b.0,
  begins_beside ruby_grammar ruby_choices (ruby_lift settings) (lifts settings)
      (file b.0 false) ws b.1,
)

reads_anywhere : (ws : List Word) (o : Outcome ruby a_tree) → ReadsFile ws o → Kept (ruby_lift settings) o →
    ReadsAt most_levels true ws o
reads_anywhere ws o a h = reads_beside ruby_grammar ruby_choices (ruby_lift settings) (lifts settings)
    (file most_levels false) ws o a h

-- ---- the kind of a fault

-- at a word that no rule takes
next_kind : (ws used : List Word) (w : Word) (rest : List Word) (o : Outcome ruby a_tree) → ReadsFile ws o →
    Kept (ruby_lift settings) o → Kept (ruby_lift a_level) o → IsStop o → rest_of o ≡ w ∷ rest → ws ≡ used ++ w ∷ rest →
    (b : Bool) → is_left_out w ≡ b → KindAt used (w ∷ rest) (if b then not_in_profile else expected)
next_kind ws used w rest o a h k stop r e true i = left_out i
next_kind ws used w rest o a h k stop r e false i =
    other (stuck_at_any_depth most_levels true ws used w rest o (reads_anywhere ws o a h) k stop r e) i

done_kind : (ws used : List Word) (x : FileTree) (ms : List Mark) (rest : List Word) →
    ReadsFile ws (done x ms rest) → IsFault (done x ms rest) → ws ≡ used ++ rest → KindAt used rest (kind_of_next rest)
done_kind ws used x ms [] a f e = absurd f
done_kind ws used x ms (w ∷ rest) a f e = next_kind ws used w rest (done x ms (w ∷ rest)) a tt tt tt refl e
    (is_left_out w) refl

unexpected_kind : (ws used rest : List Word) → ReadsFile ws (fault Unexpected rest) → ws ≡ used ++ rest →
    KindAt used rest (kind_of_next rest)
unexpected_kind ws used [] a e = ended
unexpected_kind ws used (w ∷ rest) a e = next_kind ws used w rest (fault Unexpected (w ∷ rest)) a tt tt tt refl e
    (is_left_out w) refl

deep_kind : (ws used rest : List Word) → ReadsFile ws (fault Deep rest) → ws ≡ used ++ rest → KindAt used rest too_deep
deep_kind ws used rest a e =
    let n = begins_next ruby_grammar ruby_choices (ruby_lift a_level) (lifts a_level)
    (file most_levels false) ruby_follow lawful ws used rest Deep a refl e in
    subst (λ l. KindAt used l too_deep) (sym n.here) (deep (suc most_levels, n.begins))

barred_kind : (ws used rest : List Word) → ReadsFile ws (fault Barred rest) → ws ≡ used ++ rest →
    KindAt used rest not_in_profile
barred_kind ws used rest a e =
    let n = begins_next ruby_grammar ruby_choices (ruby_lift settings) (lifts settings)
    (file most_levels false) ruby_follow lawful ws used rest Barred a refl e in
    subst (λ l. KindAt used l not_in_profile) (sym n.here)
    (barred (stuck_at_any_depth most_levels false ws used n.at n.behind (fault Barred rest) a refl tt n.here
    (e ∙ ap (λ l. used ++ l) n.here)) (most_levels, n.begins))

abbrev done_of : FileTree → List Mark → List Word → Outcome ruby a_tree
done_of x ms ws = done x ms ws

abbrev fault_of : Why ruby → List Word → Outcome ruby a_tree
fault_of why ws = fault why ws

-- what reading the words stops at is their first fault
pub first_fault : (ws : List Word) (end : ℕ) (o : Outcome ruby a_tree) → ReadsFile ws o → IsFault o →
    FirstFault ws end (fault_place end o) (fault_kind o)
first_fault ws end (done x ms []) a f = absurd f
first_fault ws end (done x ms (w ∷ rest)) a f =
    let st = exact.stops ws (done_of x ms (w ∷ rest)) a tt in
    at_word st (exact.no_clash ws (done_of x ms (w ∷ rest)) a tt) (done_kind ws st.used x ms (w ∷ rest) a tt st.whole)
first_fault ws end (fault Unexpected rest) a f =
    let st = exact.stops ws (fault_of Unexpected rest) a tt in
    at_word st (exact.no_clash ws (fault_of Unexpected rest) a tt) (unexpected_kind ws st.used rest a st.whole)
first_fault ws end (fault Deep rest) a f =
    let st = exact.stops ws (fault_of Deep rest) a tt in
    at_word st (exact.no_clash ws (fault_of Deep rest) a tt) (deep_kind ws st.used rest a st.whole)
first_fault ws end (fault Barred rest) a f =
    let st = exact.stops ws (fault_of Barred rest) a tt in
    at_word st (exact.no_clash ws (fault_of Barred rest) a tt) (barred_kind ws st.used rest a st.whole)
first_fault ws end (fault (Twice m) rest) a f = twice (exact.twice ws rest m a)

-- ---- first faults are one

true_false : (b : Bool) → b ≡ true → b ≡ false → ⊥
true_false b h k = cc

one_kind : (used rest : List Word) (kind kind' : Kind) → KindAt used rest kind → KindAt used rest kind' → kind ≡ kind'
one_kind used rest kind kind' (deep b) (deep b') = refl
one_kind used rest kind kind' (deep {w = w} b) (left_out i) =
    absurd (true_false (is_left_out w) i (begins_inside (file b.0 false) used w b.1))
one_kind used rest kind kind' (deep b) (barred n b') = absurd (n b)
one_kind used rest kind kind' (deep {w = w} b) (other n i) = absurd (n (begins_anywhere (used ++ w ∷ []) b))
one_kind used rest kind kind' (left_out {w = w} i) (deep b) =
    absurd (true_false (is_left_out w) i (begins_inside (file b.0 false) used w b.1))
one_kind used rest kind kind' (left_out i) (left_out i') = refl
one_kind used rest kind kind' (left_out i) (barred n b) = refl
one_kind used rest kind kind' (left_out {w = w} i) (other n i') = absurd (true_false (is_left_out w) i i')
one_kind used rest kind kind' (barred n b) (deep b') = absurd (n b')
one_kind used rest kind kind' (barred n b) (left_out i) = refl
one_kind used rest kind kind' (barred n b) (barred n' b') = refl
one_kind used rest kind kind' (barred n b) (other n' i) = absurd (n' b)
one_kind used rest kind kind' (other {w = w} n i) (deep b) = absurd (n (begins_anywhere (used ++ w ∷ []) b))
one_kind used rest kind kind' (other {w = w} n i) (left_out i') = absurd (true_false (is_left_out w) i' i)
one_kind used rest kind kind' (other n i) (barred n' b) = absurd (n b)
one_kind used rest kind kind' (other n i) (other n' i') = refl
one_kind used rest kind kind' ended ended = refl

abbrev whole : Rule a_tree
whole = file most_levels false

same_kind : (ws r r' : List Word) (kind kind' : Kind) (s : Stops ruby_grammar whole ws r)
    (s' : Stops ruby_grammar whole ws r') → KindAt s.used r kind → KindAt s'.used r' kind' → r ≡ r' → kind ≡ kind'
same_kind ws r r' kind kind' s s' k k' e =
    let same = append_cancel_right s'.used s.used r (ap (λ l. s'.used ++ l) e ∙ sym s'.whole ∙ s.whole) in
    one_kind s.used r kind kind' k (subst (λ l. KindAt s.used l kind') (sym e) (subst (λ l. KindAt l r' kind') same k'))

-- words have one first fault: its place and its kind are determined by the words and their end
pub one_fault : (ws : List Word) (end at at' : ℕ) (kind kind' : Kind) → FirstFault ws end at kind →
    FirstFault ws end at' kind' → (at ≡ at') × (kind ≡ kind')
one_fault ws end at at' kind kind' (twice {m = m} c) (twice {m = n} c') =
    (ap (λ m. m.at) (t.one_clash ruby_grammar ruby_choices ruby_follow lawful whole refl ws m n c c'), refl)
one_fault ws end at at' kind kind' (twice {m = m} c) (at_word s n k) = absurd (n m c)
one_fault ws end at at' kind kind' (at_word s n k) (twice {m = m} c) = absurd (n m c)
one_fault ws end at at' kind kind' (at_word {rest = r} s n k) (at_word {rest = r'} s' n' k') =
    let e = front.one_stop ruby_grammar whole ws r r' s s' in
    (ap (λ l. place end l) e, same_kind ws r r' kind kind' s s' k k' e)

-- a file has no fault
pub no_fault : (ws : List Word) (tree : FileTree) (end at : ℕ) (kind : Kind) → IsFile ws tree →
    FirstFault ws end at kind → ⊥
no_fault ws tree end at kind a (twice {m = m} c) = t.clash_spells_none ruby_grammar ruby_choices ruby_follow lawful
    whole refl ws tree m c a
no_fault ws tree end at kind a (at_word {rest = rest} s n k) =
    front.stops_spells_none ruby_grammar whole ws rest tree s a

-- ---- so what reading answers is exact

-- the words have no fault where all are read, and else this one alone
pub exact_fault : (ws : List Word) (end at : ℕ) (kind : Kind) (o : Outcome ruby a_tree) → ReadsFile ws o →
    IsFault o → FirstFault ws end at kind → (at ≡ fault_place end o) × (kind ≡ fault_kind o)
exact_fault ws end at kind o a f h = one_fault ws end at (fault_place end o) kind (fault_kind o) h
    (first_fault ws end o a f)
