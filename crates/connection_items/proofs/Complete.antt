-- Where all heads are whole and nothing failed, all were answered.
use Rattle.std.proofs.Common.{◌≡◌, inl, inr, ℕ, true, List, [], ◌∷◌, ◌++◌, length}
use Rattle.std.proofs.Common.{Option, Some, None, refl, ap, sym, ◌∙◌, subst, arith, append-nil}
use Rattle.std.specs.Prelude.{IfSome}
use Rattle.outside.specs.Faults.{Rose}
use Rattle.outside.specs.Told.{appended, prefixed}
use Rattle.outside.specs.Delivery.{Sends}
use Rattle.outside.specs.declared.writing.Delivery.TheVariants as delivery
use Rattle.connection_items.specs.declared.heads.Reading.{Reading}
use Rattle.connection_items.specs.declared.heads.Reading.TheVariants as reading
use Rattle.connection_items.specs.declared.ends.End.{End}
use Rattle.connection_items.specs.declared.ends.End.TheVariants.{Closed, TornHead, BadHead, LongHead, ManyHeaders}
use Rattle.connection_items.specs.declared.ends.End.TheVariants.{Unread, ReadFault, WriteFault, Full, Memory}
use Rattle.connection_items.specs.Exchanges.{Attempt, Standing, heads_in}
use Rattle.connection_items.specs.Rules.{Rules, IsLawful, IsHopeless, AreServed, closes}
use Rattle.connection_items.specs.Heads.{Heads, Passed}
use Rattle.connection_items.specs.Ends.{Sight, Conversation, Cause, Last, AnnouncesBody, AsksToClose}
use Rattle.connection_items.specs.Ends.{NoFurther, IsLeftOut, asks_head_only, closing_response, responses}
use Rattle.connection_items.specs.Answers.{IsWholeHeads, AllServed, HasServed}
use Rattle.connection_items.proofs.HeadLaws.{passed_grows, passed_all, passed_open, heads_unique, closing_grows}
use Rattle.connection_items.proofs.HeadLaws.{last_weaker}
use Rattle.connection_items.proofs.Steps.{by_close, by_body}

-- What was left is what was read and what is left.
pub record Divides (all got : List ℕ) (left : Option (List ℕ)) : Type 0 where
  pub behind : List ℕ
  pub told : left ≡ Some behind
  pub whole : all ≡ got ++ behind

-- two told lists are one
pub some_same : {A : Type 0} (a b : A) → Some a ≡ Some b → a ≡ b
some_same a b e = cc

-- what was told to be left divides into what was read and what is left
pub divides : (all got : List ℕ) (left : Option (List ℕ)) → Some all ≡ prefixed got left → Divides all got left
divides all got None e = absurd (let bad : Some all ≡ None = e in cc)
divides all got (Some behind) e =
    record { behind = behind; told = refl; whole = some_same all (got ++ behind) e }

-- at the end nothing is left behind what was read
pub divides_at_end : (all got : List ℕ) (left : Option (List ℕ)) → Divides all got left →
    IfSome left (λ l. l ≡ []) → all ≡ got
divides_at_end all got left d end =
    let none : d.behind ≡ [] = subst (λ l. IfSome l (λ x. x ≡ [])) d.told end in
    d.whole ∙ ap (λ x. got ++ x) none ∙ append-nil got

append_empty : (a b : List ℕ) → a ++ b ≡ [] → a ≡ []
append_empty [] b e = refl
append_empty (x ∷ a) b e = cc

hopeless_is_not_more : {P : Type 0} (r : Reading P) → IsHopeless r → r ≡ reading.More → ⊥
hopeless_is_not_more r h e = subst IsHopeless e h

module _ {P I E R H F : Type 0} (rules : Rules P I E R H F) (laws : IsLawful rules) where
  -- behind whole heads nothing is hopeless
  hopeless_rest : (all got : List ℕ) (left : Option (List ℕ)) (ps : List P) (rest : List ℕ) (hs : List P) (s : List ℕ)
      (r : Reading P) → Divides all got left → Passed rules got ps rest → IsHopeless r → rules.reads rest r →
      Heads rules all hs s → IsWholeHeads rules hs s → ⊥
  hopeless_rest all got left ps rest hs s r d w hopeless h heads whole =
      let grown = passed_grows rules laws got d.behind ps rest w in
      let found = passed_all rules (got ++ d.behind) ps (rest ++ d.behind) grown
      (laws.hopeless rest d.behind r hopeless h) in
      let same = heads_unique rules laws (got ++ d.behind) ps hs (rest ++ d.behind) s found
      (subst (λ x. Heads rules x hs s) d.whole heads) in
      elim whole [
        | inl e ↦
            (let empty : rest ≡ [] = append_empty rest d.behind (same.rest ∙ e) in
            let of_none : rules.reads [] r = subst (λ x. rules.reads x r) empty h in
            hopeless_is_not_more r hopeless (laws.unique [] r reading.More of_none laws.empty))
        | inr k ↦ passed_open rules (got ++ d.behind) ps (rest ++ d.behind) grown
            (subst (Last (λ p. closes rules p ≡ true)) (sym same.heads) k)
      ]

  -- heads of which the last closes are all heads of the input
  last_closes : (all got : List ℕ) (left : Option (List ℕ)) (ps : List P) (rest : List ℕ) (hs : List P) (s : List ℕ) →
      Divides all got left → Heads rules got ps rest → Last (λ p. closes rules p ≡ true) ps → Heads rules all hs s →
      ps ≡ hs
  last_closes all got left ps rest hs s d found last heads =
      let grown = closing_grows rules laws got d.behind ps rest found last in
      (heads_unique rules laws (got ++ d.behind) ps hs (rest ++ d.behind) s grown
      (subst (λ x. Heads rules x hs s) d.whole heads)).heads

  -- without a further head all stands as the last one left it
  none_further : (old new : Standing I E H) (further : Option (Attempt P E)) (limit : Option F) →
      NoFurther rules further → IsLeftOut rules old further limit new → old ≡ new
  none_further old new None limit none e = e
  none_further old new (Some a) limit none e = absurd none

  -- the heads of a conversation that ended by itself, where they are all
  has_served : (start now : Sight I E R H) (end : End F) (c : Conversation rules start now end) (hs : List P) →
      NoFurther rules c.further → heads_in c.talk ≡ hs →
      Sends delivery.Whole (responses rules c.talk ++ []) start.written now.written →
      HasServed rules hs start.standing now.standing start.written now.written
  has_served start now end c hs none all bytes = record {
    talk = c.talk;
    all = all;
    served = subst (AreServed rules start.standing c.talk)
        (none_further c.served now.standing c.further c.limit none c.leaves_out) c.serves;
    items = c.gains.items;
    bytes = bytes ∙ ap (appended start.written) (append-nil (responses rules c.talk));
  }

  -- Where a link tells what is left, that is whole heads, no read and no write fails and no limit is met, each head was
  -- answered, in order; or memory ran out.
  pub complete : (start now : Sight I E R H) (end : End F) (all : List ℕ) (hs : List P) (s : List ℕ)
      (c : Conversation rules start now end) → start.left ≡ Some all → Heads rules all hs s →
      IsWholeHeads rules hs s → (Rose start.read_faults now.read_faults → ⊥) →
      (Rose start.write_faults now.write_faults → ⊥) → ((limit : F) → end ≡ Full limit → ⊥) →
      AllServed rules end hs start.standing now.standing start.written now.written
  complete start now Closed all hs s c told heads whole reads writes limits =
      let d = divides all c.got now.left (sym told ∙ c.left) in
      let cause = subst (Cause rules now c.got (heads_in c.talk) c.rest c.further) c.means c.cause in
      let meant = subst (λ m. Sends delivery.Whole (responses rules c.talk
      ++ closing_response rules m now.standing.generation (asks_head_only rules c.further)) start.written now.written)
      c.means c.bytes in
      elim cause.1 [
        | inl k ↦
            let same = last_closes all c.got now.left (heads_in c.talk) c.rest hs s d k.0
            (last_weaker (AsksToClose rules) (λ p. closes rules p ≡ true)
            (λ p e. by_close (rules.manner p).body (rules.manner p).close e.1) (heads_in c.talk) k.1) heads in
            inr (inl refl, has_served start now Closed c hs cause.0 same meant)
        | inr k ↦
            let e = divides_at_end all c.got now.left d k.1.1 in
            let same = heads_unique rules laws c.got (heads_in c.talk) hs c.rest s c.all
            (subst (λ x. Heads rules x hs s) e heads) in
            inr (inl refl, has_served start now Closed c hs cause.0 same.heads meant)
      ]
  complete start now (TornHead n) all hs s c told heads whole reads writes limits =
      let d = divides all c.got now.left (sym told ∙ c.left) in
      let k = (subst (Cause rules now c.got (heads_in c.talk) c.rest c.further) c.means c.cause).1 in
      let e = divides_at_end all c.got now.left d k.1.1.1.1 in
      let same = heads_unique rules laws c.got (heads_in c.talk) hs c.rest s c.all
      (subst (λ x. Heads rules x hs s) e heads) in
      absurd (elim whole [
        | inl empty ↦
            (let none : length c.rest ≡ 0 = ap length (same.rest ∙ empty) in
            let size = k.1.1.0 in
            let some = k.1.1.1.0 in
            omega arith)
        | inr l ↦ passed_open rules c.got (heads_in c.talk) c.rest k.0
            (subst (Last (λ p. closes rules p ≡ true)) (sym same.heads) l)
      ])
  complete start now BadHead all hs s c told heads whole reads writes limits =
      let d = divides all c.got now.left (sym told ∙ c.left) in
      let k = (subst (Cause rules now c.got (heads_in c.talk) c.rest c.further) c.means c.cause).1 in
      absurd (hopeless_rest all c.got now.left (heads_in c.talk) c.rest hs s reading.Bad d k.0 tt k.1 heads whole)
  complete start now LongHead all hs s c told heads whole reads writes limits =
      let d = divides all c.got now.left (sym told ∙ c.left) in
      let k = (subst (Cause rules now c.got (heads_in c.talk) c.rest c.further) c.means c.cause).1 in
      absurd (hopeless_rest all c.got now.left (heads_in c.talk) c.rest hs s reading.Long d k.0 tt k.1 heads whole)
  complete start now ManyHeaders all hs s c told heads whole reads writes limits =
      let d = divides all c.got now.left (sym told ∙ c.left) in
      let k = (subst (Cause rules now c.got (heads_in c.talk) c.rest c.further) c.means c.cause).1 in
      absurd (hopeless_rest all c.got now.left (heads_in c.talk) c.rest hs s reading.Many d k.0 tt k.1 heads whole)
  complete start now Unread all hs s c told heads whole reads writes limits =
      let d = divides all c.got now.left (sym told ∙ c.left) in
      let cause = subst (Cause rules now c.got (heads_in c.talk) c.rest c.further) c.means c.cause in
      let meant = subst (λ m. Sends delivery.Whole (responses rules c.talk
      ++ closing_response rules m now.standing.generation (asks_head_only rules c.further)) start.written now.written)
      c.means c.bytes in
      let same = last_closes all c.got now.left (heads_in c.talk) c.rest hs s d cause.1.0
      (last_weaker (AnnouncesBody rules) (λ p. closes rules p ≡ true)
      (λ p e. by_body (rules.manner p).body (rules.manner p).close e) (heads_in c.talk) cause.1.1) heads in
      inr (inr refl, has_served start now Unread c hs cause.0 same meant)
  complete start now ReadFault all hs s c told heads whole reads writes limits = absurd (reads c.reads)
  complete start now WriteFault all hs s c told heads whole reads writes limits = absurd (writes c.writes)
  complete start now (Full limit) all hs s c told heads whole reads writes limits = absurd (limits limit refl)
  complete start now Memory all hs s c told heads whole reads writes limits = inl refl
