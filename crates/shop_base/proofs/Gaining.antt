-- What a pass's turns add to what it has seen.
use Rattle.std.proofs.Common.{◌≡◌, ℕ, ◌==◌, Bool, true, false, if◌then◌else◌, List, [], ◌∷◌, ◌++◌, append_assoc}
use Rattle.std.proofs.Common.{append-nil, ◌+◌, zero-add, refl, sym, ap, ◌∙◌, arith}
use Rattle.std.proofs.lemmas.Bool.{ne_eqb, eq-eqb}
use Rattle.turn_lock.specs.Entries.{NoneOf, Lags}
use Rattle.system_events.specs.declared.event.Entry.{Entry}
use Rattle.system_events.specs.declared.event.Kept.{Kept}
use Rattle.shop_base.specs.Passes.{entry, seat_of, own, begins_of, begins, Made, Gains}

module _ {M T V P Q R F : Type 0} where
  -- the acts of two lists are those of the first and then those of the second
  pub own-append : (k : ℕ) (xs ys : List (Entry M T V P Q R F)) → own k (xs ++ ys) ≡ own k xs ++ own k ys
  own-append k [] ys = refl
  own-append k (x ∷ xs) ys = by (x.seat == k) (own-append k xs ys)
    where
      by : (b : Bool) → own k (xs ++ ys) ≡ own k xs ++ own k ys →
          (if b then (x.kept ∷ own k (xs ++ ys)) else own k (xs ++ ys))
          ≡ (if b then (x.kept ∷ own k xs) else own k xs) ++ own k ys
      by true is = ap (λ l. x.kept ∷ l) is
      by false is = is

  -- entries of other seats are none of its own
  pub own-none : (k : ℕ) (es : List (Entry M T V P Q R F)) → NoneOf seat_of k es → own k es ≡ []
  own-none k [] none = refl
  own-none k (e ∷ es) none =
      ap (λ b. if b then (e.kept ∷ own k es) else own k es) (ne_eqb e.seat k none.0) ∙ own-none k es none.1

  -- a turn without an event gains nothing
  pub gains_lags : (k : ℕ) (before now : List (Entry M T V P Q R F)) → Lags seat_of k before now →
      Gains k [] before now
  gains_lags k before now lags =
      record { more = lags.more; is = lags.is; acts = own-none k lags.more lags.none }

  -- a turn with an event gains it
  pub gains_made : (k : ℕ) (kept : Kept M T V P Q R F) (before now : List (Entry M T V P Q R F)) →
      Made k kept before now → Gains k (kept ∷ []) before now
  gains_made k kept before now made = record {
    more = made.between ++ entry k kept ∷ [];
    is = made.is ∙ append_assoc before made.between (entry k kept ∷ []);
    acts = own-append k made.between (entry k kept ∷ [])
        ∙ (ap (λ l. l ++ own k (entry k kept ∷ [])) (own-none k made.between made.none)
        ∙ ap (λ b. if b then (kept ∷ []) else []) (eq-eqb k k refl));
  }

  -- turns after turns gain what both gain
  pub gains-trans : (k : ℕ) (xs ys : List (Kept M T V P Q R F)) (a b c : List (Entry M T V P Q R F)) →
      Gains k xs a b → Gains k ys b c → Gains k (xs ++ ys) a c
  gains-trans k xs ys a b c first second = record {
    more = first.more ++ second.more;
    is = second.is ∙ (ap (λ l. l ++ second.more) first.is ∙ append_assoc a first.more second.more);
    acts = own-append k first.more second.more ∙ (λ i. first.acts i ++ second.acts i);
  }

  -- the requests begun in two lists are those of the first and those of the second
  pub begins-append : (k : ℕ) (xs ys : List (Entry M T V P Q R F)) →
      begins k (xs ++ ys) ≡ begins k xs + begins k ys
  begins-append k [] ys = sym (zero-add (begins k ys))
  begins-append k (x ∷ xs) ys =
      let rest = begins-append k xs ys in
      omega (arith, rest)

  -- entries of other seats begin none of its own
  pub begins-none : (k : ℕ) (es : List (Entry M T V P Q R F)) → NoneOf seat_of k es → begins k es ≡ 0
  begins-none k [] none = refl
  begins-none k (e ∷ es) none =
      let here : (if e.seat == k then begins_of e.kept else 0) ≡ 0 =
      ap (λ b. if b then begins_of e.kept else 0) (ne_eqb e.seat k none.0) in
      let rest = begins-none k es none.1 in omega (arith, here, rest)

  -- a turn without an event begins none
  pub begins_lags : (k : ℕ) (before now : List (Entry M T V P Q R F)) → Lags seat_of k before now →
      begins k now ≡ begins k before
  begins_lags k before now lags =
      let all = ap (begins k) lags.is ∙ begins-append k before lags.more in
      let none = begins-none k lags.more lags.none in omega (arith, all, none)

  -- an act of the seat counts where it begins a request
  pub begins_push : (k : ℕ) (es : List (Entry M T V P Q R F)) (kept : Kept M T V P Q R F) →
      begins k (es ++ entry k kept ∷ []) ≡ begins k es + begins_of kept
  begins_push k es kept =
      let both = begins-append k es (entry k kept ∷ []) in
      let own_act : (if k == k then begins_of kept else 0) ≡ begins_of kept =
      ap (λ b. if b then begins_of kept else 0) (eq-eqb k k refl) in omega (arith, both, own_act)
