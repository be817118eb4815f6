-- No two definitions of a file clash, whichever stands first.
use Rattle.std.proofs.Common.{◌≡◌, ◌⊎◌, Bool, false, List, [], ◌∷◌, inl, inr, sym, ap, ◌∙◌, subst}
use Rattle.std.specs.List.{list_any}
use Rattle.std.proofs.lemmas.Bool.{or_parts}
use Rattle.program_files.specs.Members.{Among}
use Rattle.ruby_grammar.specs.Marks.{Mark, clash}
use Rattle.ruby_print_pieces.specs.FormedFiles.{Deed, mark_of, Apart}

-- where none of a list passes, a member does not
pub none_passes : {A : Type 0} (test : A → Bool) (x : A) (xs : List A) → list_any test xs ≡ false → Among x xs →
    test x ≡ false
none_passes test x [] h m = absurd m
none_passes test x (y ∷ ys) h (inl e) = ap test e ∙ (or_parts (test y) (list_any test ys) h).0
none_passes test x (y ∷ ys) h (inr m) = none_passes test x ys (or_parts (test y) (list_any test ys) h).1 m

later_apart : (ms : List Mark) (ds : List Deed) (m : Mark) (d : Deed) → Apart ms ds → Among m ms → Among d ds →
    clash (mark_of d) m ≡ false
later_apart ms [] m d apart before h = absurd h
later_apart ms (e ∷ ds) m d apart before (inl same) =
    subst (λ x. clash (mark_of x) m ≡ false) (sym same) (none_passes (clash (mark_of e)) m ms apart.0 before)
later_apart ms (e ∷ ds) m d apart before (inr h) = later_apart (mark_of e ∷ ms) ds m d apart.1 (inr before) h

-- two definitions are one, or one of them doesn't clash with the other, which stands before it
pub two_apart : (ms : List Mark) (ds : List Deed) (a b : Deed) → Apart ms ds → Among a ds → Among b ds →
    (a ≡ b) ⊎ ((clash (mark_of a) (mark_of b) ≡ false) ⊎ (clash (mark_of b) (mark_of a) ≡ false))
two_apart ms [] a b apart h k = absurd h
two_apart ms (d ∷ ds) a b apart (inl p) (inl q) = inl (p ∙ sym q)
two_apart ms (d ∷ ds) a b apart (inl p) (inr k) =
    inr (inr (later_apart (mark_of d ∷ ms) ds (mark_of a) b apart.1 (inl (ap mark_of p)) k))
two_apart ms (d ∷ ds) a b apart (inr h) (inl q) =
    inr (inl (later_apart (mark_of d ∷ ms) ds (mark_of b) a apart.1 (inl (ap mark_of q)) h))
two_apart ms (d ∷ ds) a b apart (inr h) (inr k) = two_apart (mark_of d ∷ ms) ds a b apart.1 h k
