-- What heads add, one after another.
use Rattle.std.proofs.Common.{◌≡◌, List, [], ◌∷◌, ◌++◌, Option, Some, None, refl, ap, sym, ◌∙◌, subst}
use Rattle.std.proofs.Common.{append-nil, append_assoc}
use Rattle.std.proofs.lemmas.List.{map-append}
use Rattle.std.proofs.lemmas.Grind.{flat_map-append}
use Rattle.outside.specs.Told.{appended}
use Rattle.outside.proofs.ToldLaws.{appended-appended}
use Rattle.connection_items.specs.Exchanges.{Exchange, Attempt, Standing, Grows, heads_in, items_in, receipt_in}
use Rattle.connection_items.specs.Exchanges.{receipts_in, added_in, entries_of, given_of, hooks_after}
use Rattle.connection_items.specs.Rules.{Rules, IsServed, AreServed}
use Rattle.connection_items.specs.Ends.{Gains, IsLeftOut, response, responses}
use Rattle.connection_items.proofs.Told.{appended-nil}

-- a list that goes on and on goes on
pub grows_more : {A : Type 0} (a b c : List A) → Grows a b → Grows b c → Grows a c
grows_more a b c f m = (f.0 ++ m.0, m.1 ∙ ap (λ l. l ++ m.0) f.1 ∙ append_assoc a f.0 m.0)

-- the heads of one exchange more
pub heads_one_more : {P I E R : Type 0} (xs : List (Exchange P I E R)) (x : Exchange P I E R) →
    heads_in (xs ++ x ∷ []) ≡ heads_in xs ++ x.head ∷ []
heads_one_more {P} {I} {E} {R} xs x = map-append (λ (y : Exchange P I E R). y.head) xs (x ∷ [])

-- the receipts of one exchange more
pub receipts_one_more : {P I E R : Type 0} (xs : List (Exchange P I E R)) (x : Exchange P I E R) →
    receipts_in (xs ++ x ∷ []) ≡ receipts_in xs ++ receipt_in x.receipt
receipts_one_more {P} {I} {E} {R} xs x =
    flat_map-append (λ (y : Exchange P I E R). receipt_in y.receipt) xs (x ∷ [])
    ∙ ap (λ l. receipts_in xs ++ l) (append-nil (receipt_in x.receipt))

module _ {P I E R H F : Type 0} (rules : Rules P I E R H F) where
  -- one exchange more
  pub served_more : (a : Standing I E H) (xs : List (Exchange P I E R)) (b : Standing I E H) (x : Exchange P I E R)
      (c : Standing I E H) → AreServed rules a xs b → IsServed rules b x c → AreServed rules a (xs ++ x ∷ []) c
  served_more a [] b x c w s = (c, (subst (λ y. IsServed rules y x c) (sym w) s, refl))
  served_more a (y ∷ ys) b x c w s = (w.0, (w.1.0, served_more w.0 ys b x c w.1.1 s))

  -- the responses of one exchange more
  pub responses_one_more : (xs : List (Exchange P I E R)) (x : Exchange P I E R) →
      responses rules (xs ++ x ∷ []) ≡ responses rules xs ++ response rules x
  responses_one_more xs x = flat_map-append (response rules) xs (x ∷ [])
      ∙ ap (λ l. responses rules xs ++ l) (append-nil (response rules x))

  -- what a head that was left out adds is all that was gained
  gains_left_out : (a : Standing I E H) (further : Option (Attempt P E)) (limit : Option F) (c : Standing I E H) →
      IsLeftOut rules a further limit c → Gains rules [] further a c
  gains_left_out a None limit c e = subst (λ x. Gains rules [] None a x) e (record {
    items = sym (append-nil a.items);
    entries = sym (append-nil a.entries);
    given = sym (appended-nil a.given);
    hooks = refl;
    seen = ([], sym (append-nil a.seen));
  })
  gains_left_out a (Some t) limit c s = record {
    items = s.adds.items;
    entries = s.adds.entries ∙ ap (λ l. a.entries ++ l) (sym (append-nil t.added.entries));
    given = s.adds.given ∙ ap (appended a.given) (sym (append-nil t.added.given));
    hooks = s.adds.hooks;
    seen = s.adds.seen;
  }

  -- everything that is gained is a map over the exchanges, and over the head that was left out
  pub gains_of : (a : Standing I E H) (talk : List (Exchange P I E R)) (b : Standing I E H)
      (further : Option (Attempt P E)) (limit : Option F) (c : Standing I E H) → AreServed rules a talk b →
      IsLeftOut rules b further limit c → Gains rules talk further a c
  gains_of a [] b further limit c w s =
      gains_left_out a further limit c (subst (λ x. IsLeftOut rules x further limit c) (sym w) s)
  gains_of a (x ∷ xs) b further limit c w s =
      let m = w.0 in
      let one = w.1.0.adds in
      let more = gains_of m xs b further limit c w.1.1 s in
      record {
        items = more.items ∙ ap (λ l. l ++ items_in xs) one.items ∙ append_assoc a.items (x.item ∷ []) (items_in xs);
        entries = more.entries ∙ ap (λ l. l ++ entries_of (added_in xs further)) one.entries
            ∙ append_assoc a.entries x.added.entries (entries_of (added_in xs further));
        given = more.given ∙ ap (λ t. appended t (given_of (added_in xs further))) one.given
            ∙ appended-appended a.given x.added.given (given_of (added_in xs further));
        hooks = more.hooks ∙ ap (hooks_after rules.around (added_in xs further)) one.hooks;
        seen = grows_more a.seen m.seen c.seen one.seen more.seen;
      }
