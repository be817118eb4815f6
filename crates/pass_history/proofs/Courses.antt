-- What turns add, one after another.
use Rattle.std.proofs.Common.{◌≡◌, ℕ, ◌==◌, Bool, true, false, if◌then◌else◌, List, [], ◌∷◌, ◌++◌, append_assoc}
use Rattle.std.proofs.Common.{append-nil, Option, None, refl, sym, ap, ◌∙◌, subst}
use Rattle.std.proofs.lemmas.Bool.{eq-eqb}
use Rattle.turn_lock.specs.Entries.{Lags}
use Rattle.system_events.specs.declared.event.Cause.TheVariants.{Memory}
use Rattle.system_events.specs.declared.event.Entry.{Entry}
use Rattle.system_events.specs.declared.event.Kept.{Kept}
use Rattle.system_events.specs.declared.event.Kept.TheVariants.{Reload, Begin, End, Refuse}
use Rattle.system_events.specs.Facts.{Facts}
use Rattle.system_events.specs.State.{State}
use Rattle.system_events.specs.Steps.{effect}
use Rattle.system_events.specs.Legal.{opening, start, after_from, after, IsLegal}
use Rattle.shop_base.specs.Passes.{entry, seat_of, own, Made, Gains}
use Rattle.shop_base.specs.Mine.{Item, generation_after, request_after, item_of, items_from, mine}
use Rattle.shop_base.proofs.Gaining.{gains_lags, gains_made, gains-trans}
use Rattle.pass_history.specs.Courses.{generation_from, request_from, generation_in, request_in, IsQuiet, AreQuiet}
use Rattle.pass_history.specs.Courses.{Course}

module _ {M T V P Q R F : Type 0} where
  -- the items of two lists are those of the first and then those of the second
  items_append : (k generation : ℕ) (running : Option Q) (xs ys : List (Entry M T V P Q R F)) →
      items_from k generation running (xs ++ ys)
      ≡ items_from k generation running xs
      ++ items_from k (generation_from generation xs) (request_from k running xs) ys
  items_append k generation running [] ys = refl
  items_append k generation running (x ∷ xs) ys =
      by (x.seat == k) (items_append k (generation_after generation x.kept) (request_after running x.kept) xs ys)
      (items_append k (generation_after generation x.kept) running xs ys)
    where
      by : (b : Bool) →
          items_from k (generation_after generation x.kept) (request_after running x.kept) (xs ++ ys)
          ≡ items_from k (generation_after generation x.kept) (request_after running x.kept) xs
          ++ items_from k (generation_from (generation_after generation x.kept) xs)
          (request_from k (request_after running x.kept) xs) ys →
          items_from k (generation_after generation x.kept) running (xs ++ ys)
          ≡ items_from k (generation_after generation x.kept) running xs
          ++ items_from k (generation_from (generation_after generation x.kept) xs) (request_from k running xs) ys →
          (if b
          then (item_of running generation x.kept ++
          items_from k (generation_after generation x.kept) (request_after running x.kept) (xs ++ ys))
          else items_from k (generation_after generation x.kept) running (xs ++ ys))
          ≡ (if b
          then (item_of running generation x.kept ++
          items_from k (generation_after generation x.kept) (request_after running x.kept) xs)
          else items_from k (generation_after generation x.kept) running xs)
          ++ items_from k (generation_from (generation_after generation x.kept) xs)
          (request_from k (if b then request_after running x.kept else running) xs) ys
      by true own_is other_is =
          ap (λ l. item_of running generation x.kept ++ l) own_is
          ∙ sym (append_assoc (item_of running generation x.kept) _ _)
      by false own_is other_is = other_is

  generation_append : (generation : ℕ) (xs ys : List (Entry M T V P Q R F)) →
      generation_from generation (xs ++ ys) ≡ generation_from (generation_from generation xs) ys
  generation_append generation [] ys = refl
  generation_append generation (x ∷ xs) ys = generation_append (generation_after generation x.kept) xs ys

  request_append : (k : ℕ) (running : Option Q) (xs ys : List (Entry M T V P Q R F)) →
      request_from k running (xs ++ ys) ≡ request_from k (request_from k running xs) ys
  request_append k running [] ys = refl
  request_append k running (x ∷ xs) ys =
      request_append k (if x.seat == k then request_after running x.kept else running) xs ys

  -- a quiet act makes no item and leaves the request
  quiet_item : (running : Option Q) (generation : ℕ) (kept : Kept M T V P Q R F) → IsQuiet kept →
      item_of running generation kept ≡ []
  quiet_item running generation (Begin request) quiet = absurd quiet
  quiet_item running generation (End reply) quiet = absurd quiet
  quiet_item running generation (Refuse cause) quiet = absurd quiet
  quiet_item running generation _ quiet = refl

  quiet_request : (running : Option Q) (kept : Kept M T V P Q R F) → IsQuiet kept →
      request_after running kept ≡ running
  quiet_request running (Begin request) quiet = absurd quiet
  quiet_request running (End reply) quiet = absurd quiet
  quiet_request running (Refuse cause) quiet = absurd quiet
  quiet_request running _ quiet = refl

  -- where none of its acts begins or ends a request, a seat gains no item and its request stays
  quiet_from : (k generation : ℕ) (running : Option Q) (es : List (Entry M T V P Q R F)) → AreQuiet (own k es) →
      (items_from k generation running es ≡ []) × (request_from k running es ≡ running)
  quiet_from k generation running [] quiet = (refl, refl)
  quiet_from k generation running (e ∷ es) quiet =
      by (e.seat == k) (λ q. quiet_from k (generation_after generation e.kept) running es q) quiet
    where
      by : (b : Bool) →
          (AreQuiet (own k es) → (items_from k (generation_after generation e.kept) running es ≡ [])
          × (request_from k running es ≡ running)) →
          AreQuiet (if b then (e.kept ∷ own k es) else own k es) →
          ((if b
          then (item_of running generation e.kept ++
          items_from k (generation_after generation e.kept) (request_after running e.kept) es)
          else items_from k (generation_after generation e.kept) running es) ≡ [])
          × (request_from k (if b then request_after running e.kept else running) es ≡ running)
      by true rest both =
          let stays = quiet_request running e.kept both.0 in (
            (λ i. quiet_item running generation e.kept both.0 i
                ++ items_from k (generation_after generation e.kept) (stays i) es) ∙ (rest both.1).0,
            ap (λ r. request_from k r es) stays ∙ (rest both.1).1,
          )
      by false rest both = rest both

  -- what is seen after a history that isn't empty
  after_opening : (k : ℕ) (before more : List (Entry M T V P Q R F)) → (e : Entry M T V P Q R F)
      × ((es : List (Entry M T V P Q R F)) × (before ≡ e ∷ es)) →
      (mine k (before ++ more) ≡ mine k before ++ items_from k (generation_in before) (request_in k before) more)
      × ((request_in k (before ++ more) ≡ request_from k (request_in k before) more)
      × (generation_in (before ++ more) ≡ generation_from (generation_in before) more))
  after_opening k [] more (e, (es, is)) = absurd (cc)
  after_opening k (x ∷ xs) more some =
      (items_append k 0 None xs more, (request_append k None xs more, generation_append 0 xs more))

  opened : (f : Facts T V P Q R F) (n : ℕ) (h : List (Entry M T V P Q R F)) → IsLegal f n h →
      (e : Entry M T V P Q R F) × ((es : List (Entry M T V P Q R F)) × (h ≡ e ∷ es))
  opened f n h legal = (opening f, (legal.entries, legal.opens))

  module _ (f : Facts T V P Q R F) (n k : ℕ) where
    -- turns without a Begin, an End or a Refuse add their acts and no item, and the request that runs stays
    pub quiet_course : (acts : List (Kept M T V P Q R F)) (before now : List (Entry M T V P Q R F)) →
        IsLegal f n before → AreQuiet acts → Gains k acts before now →
        Course k acts [] before now × (request_in k now ≡ request_in k before)
    quiet_course acts before now legal quiet gains =
        let all = after_opening k before gains.more (opened f n before legal) in
        let none = quiet_from k (generation_in before) (request_in k before) gains.more
        (subst AreQuiet (sym gains.acts) quiet) in (
          record {
            gains = gains;
            items_are = ap (mine k) gains.is ∙ (all.0 ∙ ap (λ l. mine k before ++ l) none.0);
          },
          ap (request_in k) gains.is ∙ (all.1.0 ∙ none.1),
        )

    -- entries of other seats add nothing
    pub lags_course : (before now : List (Entry M T V P Q R F)) → IsLegal f n before → Lags seat_of k before now →
        Course k [] [] before now × (request_in k now ≡ request_in k before)
    lags_course before now legal lags = quiet_course [] before now legal tt (gains_lags k before now lags)

    -- a turn with an act adds the act, and the item that it makes of the request that ran
    pub made_course : (kept : Kept M T V P Q R F) (before now : List (Entry M T V P Q R F)) →
        IsLegal f n before → Made k kept before now →
        (generation : ℕ) × ((generation_after generation kept ≡ generation_in now)
        × (Course k (kept ∷ []) (item_of (request_in k before) generation kept) before now
        × (request_in k now ≡ request_after (request_in k before) kept)))
    made_course kept before now legal made =
        let some = opened f n before legal in
        let lag : Gains k [] before (before ++ made.between) =
        gains_lags k before (before ++ made.between)
        (record { more = made.between; is = refl; none = made.none }) in
        let quiet = quiet_course [] before (before ++ made.between) legal tt lag in
        let grown : (e : Entry M T V P Q R F)
        × ((es : List (Entry M T V P Q R F)) × (before ++ made.between ≡ e ∷ es)) =
        (some.0, (some.1.0 ++ made.between, ap (λ l. l ++ made.between) some.1.1)) in
        let all = after_opening k (before ++ made.between) (entry k kept ∷ []) grown in
        let g : ℕ = generation_in (before ++ made.between) in
        let self = eq-eqb k k refl in (
          g,
          (
            sym (ap generation_in made.is ∙ all.1.1),
            (
              record {
                gains = gains_made k kept before now made;
                items_are = ap (mine k) made.is ∙ (all.0
                    ∙ ((λ i. (quiet.0).items_are i ++ (if self i
                    then (item_of (quiet.1 i) g kept ++ [])
                    else []))
                    ∙ λ i. append-nil (mine k before) i
                    ++ append-nil (item_of (request_in k before) g kept) i));
              },
              ap (request_in k) made.is ∙ (all.1.0
                  ∙ (λ i. if self i then request_after (quiet.1 i) kept else quiet.1 i)),
            ),
          ),
        )

  -- turns after turns add what both add
  pub course_then : (k : ℕ) (xs ys : List (Kept M T V P Q R F)) (is js : List (Item M T V P Q R F))
      (a b c : List (Entry M T V P Q R F)) → Course k xs is a b → Course k ys js b c →
      Course k (xs ++ ys) (is ++ js) a c
  course_then k xs ys is js a b c first second = record {
    gains = gains-trans k xs ys a b c first.gains second.gains;
    items_are = second.items_are ∙ (ap (λ l. l ++ js) first.items_are ∙ append_assoc (mine k a) is js);
  }

  -- THE GENERATION

  module _ (f : Facts T V P Q R F) where
    counted : (s : State M T V P Q R F) (k : ℕ) (kept : Kept M T V P Q R F) →
        (effect f s k kept).counts.generation ≡ generation_after s.counts.generation kept
    counted s k (Reload program) = refl
    counted s k (Refuse Memory) = refl
    counted s k _ = refl

    counted_from : (s : State M T V P Q R F) (es : List (Entry M T V P Q R F)) →
        (after_from f s es).counts.generation ≡ generation_from s.counts.generation es
    counted_from s [] = refl
    counted_from s (e ∷ es) =
        counted_from (effect f s e.seat e.kept) es ∙ ap (λ g. generation_from g es) (counted s e.seat e.kept)

    -- the generation in force is the one of the state
    pub generation_is : (n : ℕ) (h : List (Entry M T V P Q R F)) →
        (after f n h).counts.generation ≡ generation_in h
    generation_is n [] = refl
    generation_is n (e ∷ es) = counted_from (start f n) es
