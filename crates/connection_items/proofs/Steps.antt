-- One turn keeps what holds between two heads, or ends the conversation.
use Rattle.std.proofs.Common.{◌≡◌, inl, inr, ℕ, zero, suc, Bool, true, false, ◌||◌, List, [], ◌∷◌, ◌++◌, length}
use Rattle.std.proofs.Common.{drop, Option, Some, None, refl, ap, sym, ◌∙◌, subst, arith, append-nil, append_assoc}
use Rattle.std.specs.Prelude.{IfSome}
use Rattle.std.proofs.lemmas.List.{nil_from_length}
use Rattle.outside.specs.Faults.{Counts, Rose}
use Rattle.outside.specs.Told.{appended, prefixed}
use Rattle.outside.specs.Delivery.{Sends}
use Rattle.outside.specs.declared.writing.Delivery.{Delivery}
use Rattle.outside.specs.declared.writing.Delivery.TheVariants as delivery
use Rattle.outside.proofs.ToldLaws.{appended-appended}
use Rattle.connection_items.specs.declared.heads.Reading.{Reading}
use Rattle.connection_items.specs.declared.heads.Reading.TheVariants as reading
use Rattle.connection_items.specs.declared.ends.End.{End}
use Rattle.connection_items.specs.declared.ends.End.TheVariants.{Closed, TornHead, BadHead, LongHead, ManyHeaders}
use Rattle.connection_items.specs.declared.ends.End.TheVariants.{Unread, ReadFault, WriteFault, Full, Memory}
use Rattle.connection_items.specs.declared.ends.Step.{Step}
use Rattle.connection_items.specs.declared.ends.Step.TheVariants.{On, Over}
use Rattle.connection_items.specs.Exchanges.{Exchange, Attempt, heads_in, receipt_in, receipts_in}
use Rattle.connection_items.specs.Rules.{Rules, IsLawful, IsHopeless, HasNoHead, AreServed, closes}
use Rattle.connection_items.specs.Heads.{BeginWith, Passed}
use Rattle.connection_items.specs.Ends.{Sight, SameReads, IsAtEnd, IsMeant, is_write_fault, is_read_fault}
use Rattle.connection_items.specs.Ends.{delivery_of, response, responses, asks_head_only, closing_response}
use Rattle.connection_items.specs.Ends.{AnnouncesBody, AsksToClose, TellsLimit, Cause, AllHeads}
use Rattle.connection_items.specs.Ends.{IsLeftOut, Conversation}
use Rattle.connection_items.specs.Going.{ended_step, Parts, IsAnswered, Serving, Going, Turned}
use Rattle.connection_items.proofs.Told.{appended-nil, prefixed-nil, prefixed-prefixed, sends_more, sends_nothing}
use Rattle.connection_items.proofs.HeadLaws.{passed_more, passed_grows, passed_all, passed_last, begin_passed}
use Rattle.connection_items.proofs.HeadLaws.{begin_passed_with, last_one, more_is_not_whole}
use Rattle.connection_items.proofs.GainLaws.{heads_one_more, receipts_one_more, served_more, responses_one_more}
use Rattle.connection_items.proofs.GainLaws.{gains_of}

-- a head that asks to close closes
pub by_close : (body close : Bool) → close ≡ true → (body || close) ≡ true
by_close true true e = refl
by_close true false e = refl
by_close false true e = refl
by_close false false e = e

-- a head that announces a body closes
pub by_body : (body close : Bool) → body ≡ true → (body || close) ≡ true
by_body true true e = refl
by_body true false e = refl
by_body false true e = refl
by_body false false e = e

counts_from : (failed : Bool) (a b c : ℕ) → b ≡ a → Counts failed b c → Counts failed a c
counts_from failed a b c e k = subst (λ x. Counts failed x c) e k

module _ {P I E R H F : Type 0} (rules : Rules P I E R H F) (laws : IsLawful rules) where
  -- where more is asked for, no whole head is there
  pub more_has_no_head : (b : List ℕ) → rules.reads b reading.More → HasNoHead rules b
  more_has_no_head b h n p w = more_is_not_whole n p (laws.unique b reading.More (reading.Whole n p) h w)

  -- what is hopeless has no whole head
  pub hopeless_has_no_head : (b : List ℕ) (r : Reading P) → IsHopeless r → rules.reads b r → HasNoHead rules b
  hopeless_has_no_head b r hopeless h = subst (HasNoHead rules) (append-nil b) (laws.hopeless b [] r hopeless h)

  -- An end without a further item.
  pub over_still : (start old new : Sight I E R H) (window : List ℕ) (end meant : End F)
      (further : Option (Attempt P E)) (limit : Option F) (g : Going rules start old window) → SameReads old new →
      IsLeftOut rules old.standing further limit new.standing → TellsLimit rules meant limit →
      new.receipts ≡ old.receipts → IsMeant end meant →
      Sends (delivery_of end) (closing_response rules meant new.standing.generation (asks_head_only rules further))
      old.written new.written →
      Cause rules new g.got (heads_in g.talk) window further meant →
      AllHeads rules end g.got (heads_in g.talk) window →
      is_read_fault end ≡ false → Counts (is_write_fault end) old.write_faults new.write_faults →
      Conversation rules start new end
  over_still start old new window end meant further limit g same left tells receipts means bytes cause all reads
      writes =
      record {
        talk = g.talk;
        further = further;
        got = g.got;
        rest = window;
        limit = limit;
        meant = meant;
        served = old.standing;
        read = same.read ∙ g.read;
        left = g.left ∙ ap (prefixed g.got) (sym same.left);
        first = λ behind. begin_passed rules laws g.got behind (heads_in g.talk) window g.passed;
        serves = g.serves;
        leaves_out = left;
        tells = tells;
        gains = gains_of rules start.standing g.talk old.standing further limit new.standing g.serves left;
        receipts = receipts ∙ g.receipts;
        means = means;
        bytes = sends_more (delivery_of end) (responses rules g.talk)
            (closing_response rules meant new.standing.generation (asks_head_only rules further))
            start.written old.written new.written g.bytes bytes;
        cause = cause;
        all = all;
        reads = subst (λ b. Counts b start.read_faults new.read_faults) (sym reads) (same.read_faults ∙ g.reads);
        writes = counts_from (is_write_fault end) start.write_faults old.write_faults new.write_faults g.writes writes;
      }

  -- An end with one item more.
  pub over_item : (start old new : Sight I E R H) (window : List ℕ) (n : ℕ) (p : P) (end : End F) (sent : Delivery)
      (g : Going rules start old window) → rules.reads window (reading.Whole n p) → SameReads old new →
      IsAnswered rules p sent old new → delivery_of end ≡ sent → IsMeant end end → TellsLimit rules end None →
      closing_response rules end new.standing.generation false ≡ [] →
      Cause rules new g.got (heads_in g.talk ++ p ∷ []) (drop n window) None end →
      AllHeads rules end g.got (heads_in g.talk ++ p ∷ []) (drop n window) →
      is_read_fault end ≡ false → Counts (is_write_fault end) old.write_faults new.write_faults →
      Conversation rules start new end
  over_item start old new window n p end sent g h same a delivered means tells nothing cause all reads writes =
      let x : Exchange P I E R = record { head = p; item = a.item; receipt = a.receipt; added = a.added } in
      let heads : heads_in (g.talk ++ x ∷ []) ≡ heads_in g.talk ++ p ∷ [] = heads_one_more g.talk x in
      let serves = served_more rules start.standing g.talk old.standing x new.standing g.serves a.served in
      let bytes = sends_more sent (responses rules g.talk) (response rules x) start.written old.written new.written
      g.bytes a.bytes in
      let all_bytes : responses rules g.talk ++ response rules x
      ≡ responses rules (g.talk ++ x ∷ []) ++ closing_response rules end new.standing.generation false =
      sym (responses_one_more rules g.talk x) ∙ sym (append-nil (responses rules (g.talk ++ x ∷ [])))
      ∙ ap (λ l. responses rules (g.talk ++ x ∷ []) ++ l) (sym nothing) in
      record {
        talk = g.talk ++ x ∷ [];
        further = None;
        got = g.got;
        rest = drop n window;
        limit = None;
        meant = end;
        served = new.standing;
        read = same.read ∙ g.read;
        left = g.left ∙ ap (prefixed g.got) (sym same.left);
        first = λ behind. subst (BeginWith rules (g.got ++ behind)) (sym heads)
            (begin_passed_with rules laws g.got behind (heads_in g.talk) window n p g.passed h);
        serves = serves;
        leaves_out = refl;
        tells = tells;
        gains = gains_of rules start.standing (g.talk ++ x ∷ []) new.standing None None new.standing serves refl;
        receipts = a.receipts ∙ ap (λ l. l ++ receipt_in a.receipt) g.receipts
            ∙ append_assoc start.receipts (receipts_in g.talk) (receipt_in a.receipt)
            ∙ ap (λ l. start.receipts ++ l) (sym (receipts_one_more g.talk x));
        means = means;
        bytes = subst (λ l. Sends (delivery_of end) l start.written new.written) all_bytes
            (subst (λ d. Sends d (responses rules g.talk ++ response rules x) start.written new.written)
            (sym delivered) bytes);
        cause = subst (λ qs. Cause rules new g.got qs (drop n window) None end) (sym heads) cause;
        all = subst (λ qs. AllHeads rules end g.got qs (drop n window)) (sym heads) all;
        reads = subst (λ b. Counts b start.read_faults new.read_faults) (sym reads) (same.read_faults ∙ g.reads);
        writes = counts_from (is_write_fault end) start.write_faults old.write_faults new.write_faults g.writes writes;
      }

  -- It goes on with one item more.
  on_item : (start old new : Sight I E R H) (window : List ℕ) (n : ℕ) (p : P) (g : Going rules start old window) →
      rules.reads window (reading.Whole n p) → SameReads old new → IsAnswered rules p delivery.Whole old new →
      closes rules p ≡ false → new.write_faults ≡ old.write_faults → Going rules start new (drop n window)
  on_item start old new window n p g h same a goes_on writes =
      let x : Exchange P I E R = record { head = p; item = a.item; receipt = a.receipt; added = a.added } in
      record {
        talk = g.talk ++ x ∷ [];
        got = g.got;
        read = same.read ∙ g.read;
        left = g.left ∙ ap (prefixed g.got) (sym same.left);
        passed = subst (λ qs. Passed rules g.got qs (drop n window)) (sym (heads_one_more g.talk x))
            (passed_more rules g.got (heads_in g.talk) window n p g.passed h goes_on);
        serves = served_more rules start.standing g.talk old.standing x new.standing g.serves a.served;
        receipts = a.receipts ∙ ap (λ l. l ++ receipt_in a.receipt) g.receipts
            ∙ append_assoc start.receipts (receipts_in g.talk) (receipt_in a.receipt)
            ∙ ap (λ l. start.receipts ++ l) (sym (receipts_one_more g.talk x));
        bytes = subst (λ l. Sends delivery.Whole l start.written new.written) (sym (responses_one_more rules g.talk x))
            (sends_more delivery.Whole (responses rules g.talk) (response rules x) start.written old.written new.written
            g.bytes a.bytes);
        reads = same.read_faults ∙ g.reads;
        writes = writes ∙ g.writes;
      }

  -- A whole head was served.
  pub after_head : (start old new : Sight I E R H) (window : List ℕ) (n : ℕ) (p : P) (step : Step F) →
      Going rules start old window → rules.reads window (reading.Whole n p) → Serving rules p step old new →
      SameReads old new → Turned rules step start new (drop n window)
  after_head start old new window n p On g h s same = on_item start old new window n p g h same s.0 s.1.0 s.1.1
  after_head start old new window n p (Over Closed) g h s same =
      let closing = by_close (rules.manner p).body (rules.manner p).close s.1.1.0 in
      let heads = passed_last rules g.got (heads_in g.talk) window n p g.passed h closing in
      over_item start old new window n p Closed delivery.Whole g h same s.0 refl refl tt refl
      (tt, inl (heads, last_one (AsksToClose rules) (heads_in g.talk) p (s.1.0, s.1.1.0))) heads refl s.1.1.1
  after_head start old new window n p (Over (TornHead k)) g h s same = absurd s
  after_head start old new window n p (Over BadHead) g h s same = absurd s
  after_head start old new window n p (Over LongHead) g h s same = absurd s
  after_head start old new window n p (Over ManyHeaders) g h s same = absurd s
  after_head start old new window n p (Over Unread) g h s same =
      let closing = by_body (rules.manner p).body (rules.manner p).close s.1.0 in
      let heads = passed_last rules g.got (heads_in g.talk) window n p g.passed h closing in
      over_item start old new window n p Unread delivery.Whole g h same s.0 refl refl tt refl
      (tt, (heads, last_one (AnnouncesBody rules) (heads_in g.talk) p s.1.0)) heads refl s.1.1
  after_head start old new window n p (Over ReadFault) g h s same = absurd s
  after_head start old new window n p (Over WriteFault) g h s same = elim s.0 [
    | inl a ↦ over_item start old new window n p WriteFault delivery.Failed g h same a refl tt tt refl tt tt refl s.1
    | inr d ↦ over_still start old new window WriteFault (Full d.0) (Some (record { head = p; added = d.1.added }))
        (Some d.0) g same d.1.tried refl d.1.receipts tt d.1.bytes (g.passed, (n, h)) tt refl s.1
  ]
  after_head start old new window n p (Over (Full limit)) g h s same =
      over_still start old new window (Full limit) (Full limit) (Some (record { head = p; added = s.0.added }))
      (Some limit) g same s.0.tried refl s.0.receipts refl s.0.bytes (g.passed, (n, h)) tt refl s.1
  after_head start old new window n p (Over Memory) g h s same =
      over_still start old new window Memory Memory (Some (record { head = p; added = s.0.added })) s.0.limit g same
      s.0.tried tt s.0.receipts refl (sends_nothing old.written new.written s.0.bytes) (g.passed, (n, h)) tt refl s.1

  -- What no read or write touches.
  pub record SameTalk (old new : Sight I E R H) : Type 0 where
    pub standing : new.standing ≡ old.standing
    pub receipts : new.receipts ≡ old.receipts

  -- A piece was read.
  pub after_piece : (start old new : Sight I E R H) (window now piece : List ℕ) → Going rules start old window →
      now ≡ window ++ piece → old.left ≡ prefixed piece new.left → new.read ≡ appended old.read piece →
      SameTalk old new → new.written ≡ old.written → new.read_faults ≡ old.read_faults →
      new.write_faults ≡ old.write_faults → Going rules start new now
  after_piece start old new window now piece g behind left read same written reads writes = record {
    talk = g.talk;
    got = g.got ++ piece;
    read = read ∙ ap (λ told. appended told piece) g.read ∙ appended-appended start.read g.got piece;
    left = g.left ∙ ap (prefixed g.got) left ∙ prefixed-prefixed g.got piece new.left;
    passed = subst (Passed rules (g.got ++ piece) (heads_in g.talk)) (sym behind)
        (passed_grows rules laws g.got piece (heads_in g.talk) window g.passed);
    serves = subst (AreServed rules start.standing g.talk) (sym same.standing) g.serves;
    receipts = same.receipts ∙ g.receipts;
    bytes = subst (Sends delivery.Whole (responses rules g.talk) start.written) (sym written) g.bytes;
    reads = reads ∙ g.reads;
    writes = writes ∙ g.writes;
  }

  -- The input ended.
  pub after_end : (start old new : Sight I E R H) (window now : List ℕ) (k : ℕ) → Going rules start old window →
      rules.reads window reading.More → k ≡ length window → SameReads old new → IsAtEnd old → SameTalk old new →
      new.written ≡ old.written → new.write_faults ≡ old.write_faults → Turned rules (ended_step k) start new now
  after_end start old new window now zero g h size same end talk written writes =
      over_still start old new window Closed Closed None None g same (sym talk.standing) tt talk.receipts refl
      (sends_nothing old.written new.written written) (
        tt,
        inr (
          g.passed,
          (
            nil_from_length window (sym size),
            subst (λ l. IfSome l (λ left. left ≡ [])) (sym same.left) end,
          ),
        ),
      )
      (passed_all rules g.got (heads_in g.talk) window g.passed (more_has_no_head window h)) refl writes
  after_end start old new window now (suc k) g h size same end talk written writes =
      over_still start old new window (TornHead (suc k)) (TornHead (suc k)) None None g same (sym talk.standing) tt
      talk.receipts refl (sends_nothing old.written new.written written) (
        tt,
        (
          g.passed,
          (
            h,
            (
              size,
              (
                omega arith,
                subst (λ l. IfSome l (λ left. left ≡ [])) (sym same.left) end,
              ),
            ),
          ),
        ),
      )
      (passed_all rules g.got (heads_in g.talk) window g.passed (more_has_no_head window h)) refl writes

  -- A read failed.
  pub after_failed_read : (start old new : Sight I E R H) (window now : List ℕ) → Going rules start old window →
      rules.reads window reading.More → new.read ≡ old.read → new.left ≡ old.left →
      Rose old.read_faults new.read_faults → SameTalk old new → new.written ≡ old.written →
      new.write_faults ≡ old.write_faults → Turned rules (Over ReadFault) start new now
  after_failed_read start old new window now g h read left rose same written writes = record {
    talk = g.talk;
    further = None;
    got = g.got;
    rest = window;
    limit = None;
    meant = ReadFault;
    served = old.standing;
    read = read ∙ g.read;
    left = g.left ∙ ap (prefixed g.got) (sym left);
    first = λ behind. begin_passed rules laws g.got behind (heads_in g.talk) window g.passed;
    serves = g.serves;
    leaves_out = sym same.standing;
    tells = tt;
    gains = gains_of rules start.standing g.talk old.standing None None new.standing g.serves (sym same.standing);
    receipts = same.receipts ∙ g.receipts;
    means = refl;
    bytes = sends_more delivery.Whole (responses rules g.talk) [] start.written old.written new.written g.bytes
        (sends_nothing old.written new.written written);
    cause = (tt, (g.passed, h));
    all = passed_all rules g.got (heads_in g.talk) window g.passed (more_has_no_head window h);
    reads = subst (λ x. Rose x new.read_faults) g.reads rose;
    writes = writes ∙ g.writes;
  }

  -- Memory ran out where nothing had changed.
  pub out_of_memory : (start now : Sight I E R H) (window : List ℕ) → Going rules start now window →
      Conversation rules start now Memory
  out_of_memory start now window g =
      over_still start now now window Memory Memory None None g
      (record { read = refl; left = refl; read_faults = refl }) refl tt refl refl
      (sends_nothing now.written now.written refl) (g.passed, tt) tt refl refl

  -- The response of an end was sent, as far as it was.
  pub after_part : (start old new : Sight I E R H) (window now : List ℕ) (end : End F) (bytes : List ℕ) (step : Step F)
      (r : Reading P) (g : Going rules start old window) →
      Parts bytes end step old.written new.written old.write_faults new.write_faults →
      closing_response rules end new.standing.generation false ≡ bytes → rules.reads window r → IsHopeless r →
      SameReads old new → SameTalk old new → TellsLimit rules end None → IsMeant WriteFault end → IsMeant end end →
      delivery_of end ≡ delivery.Whole → is_read_fault end ≡ false → is_write_fault end ≡ false →
      Cause rules new g.got (heads_in g.talk) window None end →
      (HasNoHead rules window → AllHeads rules end g.got (heads_in g.talk) window) →
      Turned rules step start new now
  after_part start old new window now end bytes step r g parts closing h hopeless same talk tells fault means whole
      reads writes cause all =
      let left = sym talk.standing in
      elim parts [
        | inl k ↦ subst (λ s. Turned rules s start new now) (sym k.0)
            (over_still start old new window end end None None g same left tells talk.receipts means
            (subst (λ d. Sends d (closing_response rules end new.standing.generation false) old.written new.written)
            (sym whole)
            (subst (λ l. Sends delivery.Whole l old.written new.written) (sym closing) k.1.0))
            cause (all (hopeless_has_no_head window r hopeless h)) reads
            (subst (λ b. Counts b old.write_faults new.write_faults) (sym writes) k.1.1))
        | inr other ↦ elim other [
          | inl k ↦ subst (λ s. Turned rules s start new now) (sym k.0)
              (over_still start old new window WriteFault end None None g same left tells talk.receipts fault
              (subst (λ l. Sends delivery.Failed l old.written new.written) (sym closing) k.1.0)
              cause tt refl k.1.1)
          | inr k ↦ subst (λ s. Turned rules s start new now) (sym k.0)
              (over_still start old new window Memory Memory None None g same left tt talk.receipts refl
              (sends_nothing old.written new.written k.1.0) (g.passed, tt) tt refl k.1.1)
        ]
      ]

-- Nothing was read or gained yet.
pub begun : {P I E R H F : Type 0} (rules : Rules P I E R H F) (s : Sight I E R H) → Going rules s s []
begun rules s = record {
  talk = [];
  got = [];
  read = sym (appended-nil s.read);
  left = sym (prefixed-nil s.left);
  passed = refl;
  serves = refl;
  receipts = sym (append-nil s.receipts);
  bytes = sends_nothing s.written s.written refl;
  reads = refl;
  writes = refl;
}
