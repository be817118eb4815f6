-- An end that no fault, limit or want of memory made is decided by the bytes that were read.
use Rattle.std.proofs.Common.{◌≡◌, ◌⊎◌, inl, inr, ℕ, zero, suc, ◌≤◌, true, false, List, [], ◌∷◌, length, Option}
use Rattle.std.proofs.Common.{refl, ap}
use Rattle.std.proofs.Common.{sym, ◌∙◌, subst, arith}
use Rattle.std.specs.Prelude.{⊤}
use Rattle.connection_items.specs.declared.heads.Reading.{Reading}
use Rattle.connection_items.specs.declared.heads.Reading.TheVariants as reading
use Rattle.connection_items.specs.declared.ends.End.{End}
use Rattle.connection_items.specs.declared.ends.End.TheVariants.{Closed, TornHead, BadHead, LongHead, ManyHeaders}
use Rattle.connection_items.specs.declared.ends.End.TheVariants.{Unread, ReadFault, WriteFault, Full, Memory}
use Rattle.connection_items.specs.Exchanges.{Attempt}
use Rattle.connection_items.specs.Rules.{Rules, IsLawful, closes}
use Rattle.connection_items.specs.Heads.{Passed}
use Rattle.connection_items.specs.Ends.{Sight, Cause, Last, AnnouncesBody, AsksToClose}
use Rattle.connection_items.proofs.HeadLaws.{passed_open, last_weaker}
use Rattle.connection_items.proofs.Steps.{by_close, by_body}

-- no fault, limit or want of memory made this end
abbrev pub IsPlain : {F : Type 0} → End F → Type 0
IsPlain Closed = ⊤
IsPlain (TornHead n) = ⊤
IsPlain BadHead = ⊤
IsPlain LongHead = ⊤
IsPlain ManyHeaders = ⊤
IsPlain Unread = ⊤
IsPlain ReadFault = ⊥
IsPlain WriteFault = ⊥
IsPlain (Full limit) = ⊥
IsPlain Memory = ⊥

-- the end where the input ended with so many bytes left
abbrev pub end_of_input : {F : Type 0} → ℕ → End F
end_of_input zero = Closed
end_of_input (suc n) = TornHead (suc n)

-- the end by what is left, where no head closed
abbrev pub end_by_rest : {P F : Type 0} → Reading P → ℕ → End F
end_by_rest (reading.Whole n p) size = Memory
end_by_rest reading.More size = end_of_input size
end_by_rest reading.Bad size = BadHead
end_by_rest reading.Long size = LongHead
end_by_rest reading.Many size = ManyHeaders
end_by_rest reading.Memory size = Memory

-- the end where the input ended in a head
abbrev torn : {F : Type 0} → ℕ → End F
torn n = TornHead n

torn_at : {F : Type 0} (n size : ℕ) → n ≡ size → 1 ≤ n → torn {F = F} n ≡ end_of_input size
torn_at n zero e some = absurd (omega arith)
torn_at n (suc size) e some = ap TornHead e

last_both : {P : Type 0} (One Other : P → Type 0) → ((p : P) → One p → Other p → ⊥) → (ps : List P) → Last One ps →
    Last Other ps → ⊥
last_both One Other never [] a b = a
last_both One Other never (p ∷ []) a b = never p a b
last_both One Other never (p ∷ (q ∷ ps)) a b = last_both One Other never (q ∷ ps) a b

module _ {P I E R H F : Type 0} (rules : Rules P I E R H F) (laws : IsLawful rules) where
  -- A head closed, and the end tells how.
  record IsByHead (ps : List P) (end : End F) : Type 0 where
    closing : Last (λ p. closes rules p ≡ true) ps
    how : ((end ≡ Closed) × Last (AsksToClose rules) ps) ⊎ ((end ≡ Unread) × Last (AnnouncesBody rules) ps)

  -- No head closed, and the end tells what is left.
  record IsByRest (got : List ℕ) (ps : List P) (rest : List ℕ) (end : End F) : Type 0 where
    passed : Passed rules got ps rest
    what : Reading P
    reads : rules.reads rest what
    how : end ≡ end_by_rest what (length rest)

  by_head_or_rest : (now : Sight I E R H) (got : List ℕ) (ps : List P) (rest : List ℕ)
      (further : Option (Attempt P E)) (end : End F) → IsPlain end → Cause rules now got ps rest further end →
      IsByHead ps end ⊎ IsByRest got ps rest end
  by_head_or_rest now got ps rest further Closed plain cause = elim cause.1 [
    | inl k ↦ inl (record {
      closing = last_weaker (AsksToClose rules) (λ p. closes rules p ≡ true)
          (λ p e. by_close (rules.manner p).body (rules.manner p).close e.1) ps k.1;
      how = inl (refl, k.1);
    })
    | inr k ↦ inr (record {
      passed = k.0;
      what = reading.More;
      reads = subst (λ b. rules.reads b reading.More) (sym k.1.0) laws.empty;
      how = ap (λ (b : List ℕ). end_of_input (length b)) (sym k.1.0);
    })
  ]
  by_head_or_rest now got ps rest further (TornHead n) plain cause =
      let k = cause.1 in
      inr (record {
        passed = k.0;
        what = reading.More;
        reads = k.1.0;
        how = torn_at n (length rest) k.1.1.0 k.1.1.1.0;
      })
  by_head_or_rest now got ps rest further BadHead plain cause =
      inr (record { passed = cause.1.0; what = reading.Bad; reads = cause.1.1; how = refl })
  by_head_or_rest now got ps rest further LongHead plain cause =
      inr (record { passed = cause.1.0; what = reading.Long; reads = cause.1.1; how = refl })
  by_head_or_rest now got ps rest further ManyHeaders plain cause =
      inr (record { passed = cause.1.0; what = reading.Many; reads = cause.1.1; how = refl })
  by_head_or_rest now got ps rest further Unread plain cause =
      inl (record {
        closing = last_weaker (AnnouncesBody rules) (λ p. closes rules p ≡ true)
            (λ p e. by_body (rules.manner p).body (rules.manner p).close e) ps cause.1.1;
        how = inr (refl, cause.1.1);
      })
  by_head_or_rest now got ps rest further ReadFault plain cause = absurd plain
  by_head_or_rest now got ps rest further WriteFault plain cause = absurd plain
  by_head_or_rest now got ps rest further (Full limit) plain cause = absurd plain
  by_head_or_rest now got ps rest further Memory plain cause = absurd plain

  asks_or_announces : (p : P) → AsksToClose rules p → AnnouncesBody rules p → ⊥
  asks_or_announces p a b = let bad : false ≡ true = sym a.0 ∙ b in cc

  by_one_head : (ps : List P) (e f : End F) → IsByHead ps e → IsByHead ps f → e ≡ f
  by_one_head ps e f a b = elim a.how [
    | inl x ↦ elim b.how [
      | inl y ↦ x.0 ∙ sym y.0
      | inr y ↦ absurd (last_both (AsksToClose rules) (AnnouncesBody rules) asks_or_announces ps x.1 y.1)
    ]
    | inr x ↦ elim b.how [
      | inl y ↦ absurd (last_both (AsksToClose rules) (AnnouncesBody rules) asks_or_announces ps y.1 x.1)
      | inr y ↦ x.0 ∙ sym y.0
    ]
  ]

  -- The causes of such ends exclude one another: so each comes exactly where its cause is there, unless a write failed,
  -- a limit was met or memory ran out.
  pub one_cause : (now : Sight I E R H) (got : List ℕ) (ps : List P) (rest : List ℕ) (further : Option (Attempt P E))
      (e f : End F) → IsPlain e → IsPlain f → Cause rules now got ps rest further e →
      Cause rules now got ps rest further f → e ≡ f
  one_cause now got ps rest further e f plain_e plain_f cause_e cause_f =
      elim (by_head_or_rest now got ps rest further e plain_e cause_e) [
        | inl a ↦ elim (by_head_or_rest now got ps rest further f plain_f cause_f) [
          | inl b ↦ by_one_head ps e f a b
          | inr b ↦ absurd (passed_open rules got ps rest b.passed a.closing)
        ]
        | inr a ↦ elim (by_head_or_rest now got ps rest further f plain_f cause_f) [
          | inl b ↦ absurd (passed_open rules got ps rest a.passed b.closing)
          | inr b ↦ a.how ∙ ap (λ (r : Reading P). end_by_rest r (length rest))
              (laws.unique rest a.what b.what a.reads b.reads) ∙ sym b.how
        ]
      ]
