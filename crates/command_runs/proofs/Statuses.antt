-- When a command line ends as refused, and when as not built yet.
use Rattle.std.proofs.Common.{◌≡◌, ◌⊎◌, inl, inr, ℕ, List, Option, Some, None, IfSome, refl, sym, ap, ◌∙◌}
use Rattle.outside.specs.declared.files.FileEntry.{FileEntry}
use Rattle.command_runs.specs.Asked.{IsAsked, IsLater}
use Rattle.command_runs.specs.Output.{code_of, AreRefused, EndsOn, IsFault, KnownOutput, too_long, not_built}
use Rattle.command_runs.specs.Output.{Output, faulty_words, known, answers, WritesOn}
use Rattle.command_runs.specs.declared.answer.Question.{Question}
use Rattle.command_runs.specs.declared.outcome.Outcome.{Outcome}
use Rattle.command_runs.specs.declared.outcome.Outcome.TheVariants.{Done, Negative, FaultyWords, FilesUnread}
use Rattle.command_runs.specs.declared.outcome.Outcome.TheVariants.{WriteFault, Memory, Refused, NotBuilt}
use Rattle.command_runs.proofs.Words.{asked_is_built, asked_is_short, asked_is_command, long_is_built}
use Rattle.command_runs.proofs.Words.{later_is_command}

ends_refused : (files : List FileEntry) (own : Outcome) → EndsOn files own → code_of own ≡ 6 → AreRefused files
ends_refused files Done e f = absurd (let g : ◌≡◌ {A = ℕ} 0 6 = f in cc)
ends_refused files Negative e f = absurd (let g : ◌≡◌ {A = ℕ} 1 6 = f in cc)
ends_refused files FaultyWords e f = absurd e
ends_refused files FilesUnread e f = absurd e
ends_refused files WriteFault e f = absurd e
ends_refused files Memory e f = absurd e
ends_refused files Refused e f = e
ends_refused files NotBuilt e f = absurd e

refused_ends : (files : List FileEntry) (own : Outcome) → EndsOn files own → AreRefused files → code_of own ≡ 6
refused_ends files Done e r = absurd (e r)
refused_ends files Negative e r = absurd (e r)
refused_ends files FaultyWords e r = absurd e
refused_ends files FilesUnread e r = absurd e
refused_ends files WriteFault e r = absurd e
refused_ends files Memory e r = absurd e
refused_ends files Refused e r = refl
refused_ends files NotBuilt e r = absurd e

ends_built : (files : List FileEntry) (own : Outcome) → EndsOn files own → code_of own ≡ 11 → ⊥
ends_built files Done e f = let g : ◌≡◌ {A = ℕ} 0 11 = f in cc
ends_built files Negative e f = let g : ◌≡◌ {A = ℕ} 1 11 = f in cc
ends_built files FaultyWords e f = e
ends_built files FilesUnread e f = e
ends_built files WriteFault e f = e
ends_built files Memory e f = e
ends_built files Refused e f = let g : ◌≡◌ {A = ℕ} 6 11 = f in cc
ends_built files NotBuilt e f = e

known_refused : (words : List (List ℕ)) (output : List ℕ) (own : Outcome) → KnownOutput words output own →
    code_of own ≡ 6 → ⊥
known_refused words output own (too_long h) f = let g : ◌≡◌ {A = ℕ} 1 6 = f in cc
known_refused words output own (not_built h) f = let g : ◌≡◌ {A = ℕ} 11 6 = f in cc

known_asked : (words : List (List ℕ)) (output : List ℕ) (own : Outcome) → KnownOutput words output own →
    IsAsked words → ⊥
known_asked words output own (too_long h) asked = asked_is_short words asked.0 asked.1 h
known_asked words output own (not_built h) asked = asked_is_built words asked.0 asked.1 h

known_later : (words : List (List ℕ)) (output : List ℕ) (own : Outcome) → KnownOutput words output own →
    code_of own ≡ 11 → IsLater words
known_later words output own (too_long h) f = absurd (let g : ◌≡◌ {A = ℕ} 1 11 = f in cc)
known_later words output own (not_built h) f = h

later_known : (words : List (List ℕ)) (output : List ℕ) (own : Outcome) → KnownOutput words output own →
    IsLater words → code_of own ≡ 11
later_known words output own (too_long h) later = absurd (long_is_built words h later)
later_known words output own (not_built h) later = refl

module _ (Is : Question → List FileEntry → List ℕ → Outcome → Type 0)
    (ends : (question : Question) (files : List FileEntry) (output : List ℕ) (own : Outcome) →
    Is question files output own → EndsOn files own) where
  output_refused : (words : List (List ℕ)) (files : List FileEntry) (output : List ℕ) (own : Outcome) →
      Output Is words files output own → code_of own ≡ 6 → IsAsked words × AreRefused files
  output_refused words files output own (faulty_words faulty) f = absurd (let g : ◌≡◌ {A = ℕ} 2 6 = f in cc)
  output_refused words files output own (known out status k) f = absurd (known_refused words out status k f)
  output_refused words files output own (answers question out status asks is) f =
      ((question, asks), ends_refused files status (ends question files out status is) f)

  refused_output : (words : List (List ℕ)) (files : List FileEntry) (output : List ℕ) (own : Outcome) →
      Output Is words files output own → IsAsked words → AreRefused files → code_of own ≡ 6
  refused_output words files output own (faulty_words faulty) asked r =
      absurd (faulty (asked_is_command words asked.0 asked.1))
  refused_output words files output own (known out status k) asked r = absurd (known_asked words out status k asked)
  refused_output words files output own (answers question out status asks is) asked r =
      refused_ends files status (ends question files out status is) r

  output_later : (words : List (List ℕ)) (files : List FileEntry) (output : List ℕ) (own : Outcome) →
      Output Is words files output own → code_of own ≡ 11 → IsLater words
  output_later words files output own (faulty_words faulty) f = absurd (let g : ◌≡◌ {A = ℕ} 2 11 = f in cc)
  output_later words files output own (known out status k) f = known_later words out status k f
  output_later words files output own (answers question out status asks is) f =
      absurd (ends_built files status (ends question files out status is) f)

  later_output : (words : List (List ℕ)) (files : List FileEntry) (output : List ℕ) (own : Outcome) →
      Output Is words files output own → IsLater words → code_of own ≡ 11
  later_output words files output own (faulty_words faulty) later = absurd (faulty (later_is_command words later))
  later_output words files output own (known out status k) later = later_known words out status k later
  later_output words files output own (answers question out status asks is) later =
      absurd (asked_is_built words question asks later)

  -- where the exit status is 6, something was asked of files that are refused
  pub refused_is : (words : List (List ℕ)) (held : Option (List FileEntry)) (outcome : Outcome)
      (before now : Option (List ℕ)) → WritesOn held (Output Is words) outcome before now →
      IfSome held (λ files. code_of outcome ≡ 6 → IsAsked words × AreRefused files)
  refused_is words None outcome before now w = tt
  refused_is words (Some files) Done before now w = λ f. absurd (let g : ◌≡◌ {A = ℕ} 0 6 = f in cc)
  refused_is words (Some files) Negative before now w = λ f. absurd (let g : ◌≡◌ {A = ℕ} 1 6 = f in cc)
  refused_is words (Some files) FaultyWords before now w = λ f. absurd (let g : ◌≡◌ {A = ℕ} 2 6 = f in cc)
  refused_is words (Some files) FilesUnread before now w = λ f. absurd (let g : ◌≡◌ {A = ℕ} 3 6 = f in cc)
  refused_is words (Some files) WriteFault before now w = λ f. absurd (let g : ◌≡◌ {A = ℕ} 4 6 = f in cc)
  refused_is words (Some files) Memory before now w = λ f. absurd (let g : ◌≡◌ {A = ℕ} 5 6 = f in cc)
  refused_is words (Some files) Refused before now w = λ f.
      output_refused words files w.0 w.1 w.2 (ap code_of (sym w.3.0))
  refused_is words (Some files) NotBuilt before now w = λ f. absurd (let g : ◌≡◌ {A = ℕ} 11 6 = f in cc)

  -- what is asked of refused files ends with status 6, unless with a fault of the tree, of the sink or of memory
  pub is_refused : (words : List (List ℕ)) (held : Option (List FileEntry)) (outcome : Outcome)
      (before now : Option (List ℕ)) → WritesOn held (Output Is words) outcome before now →
      IfSome held (λ files. IsAsked words → AreRefused files → (code_of outcome ≡ 6) ⊎ IsFault (code_of outcome))
  is_refused words None outcome before now w = tt
  is_refused words (Some files) Done before now w = λ a r.
      inl (ap code_of w.3.0 ∙ refused_output words files w.0 w.1 w.2 a r)
  is_refused words (Some files) Negative before now w = λ a r.
      inl (ap code_of w.3.0 ∙ refused_output words files w.0 w.1 w.2 a r)
  is_refused words (Some files) FaultyWords before now w = λ a r.
      inl (ap code_of w.3.0 ∙ refused_output words files w.0 w.1 w.2 a r)
  is_refused words (Some files) FilesUnread before now w = λ a r. inr (inl refl)
  is_refused words (Some files) WriteFault before now w = λ a r. inr (inr (inl refl))
  is_refused words (Some files) Memory before now w = λ a r. inr (inr (inr refl))
  is_refused words (Some files) Refused before now w = λ a r. inl refl
  is_refused words (Some files) NotBuilt before now w = λ a r.
      inl (ap code_of w.3.0 ∙ refused_output words files w.0 w.1 w.2 a r)

  -- where the exit status is 11, the command isn't built yet
  pub later_is : (words : List (List ℕ)) (held : Option (List FileEntry)) (outcome : Outcome)
      (before now : Option (List ℕ)) → WritesOn held (Output Is words) outcome before now →
      IfSome held (λ files. code_of outcome ≡ 11 → IsLater words)
  later_is words None outcome before now w = tt
  later_is words (Some files) Done before now w = λ f. absurd (let g : ◌≡◌ {A = ℕ} 0 11 = f in cc)
  later_is words (Some files) Negative before now w = λ f. absurd (let g : ◌≡◌ {A = ℕ} 1 11 = f in cc)
  later_is words (Some files) FaultyWords before now w = λ f. absurd (let g : ◌≡◌ {A = ℕ} 2 11 = f in cc)
  later_is words (Some files) FilesUnread before now w = λ f. absurd (let g : ◌≡◌ {A = ℕ} 3 11 = f in cc)
  later_is words (Some files) WriteFault before now w = λ f. absurd (let g : ◌≡◌ {A = ℕ} 4 11 = f in cc)
  later_is words (Some files) Memory before now w = λ f. absurd (let g : ◌≡◌ {A = ℕ} 5 11 = f in cc)
  later_is words (Some files) Refused before now w = λ f. absurd (let g : ◌≡◌ {A = ℕ} 6 11 = f in cc)
  later_is words (Some files) NotBuilt before now w = λ f.
      output_later words files w.0 w.1 w.2 (ap code_of (sym w.3.0))

  -- a command that isn't built yet ends with status 11, unless with a fault of the tree, of the sink or of memory
  pub is_later : (words : List (List ℕ)) (held : Option (List FileEntry)) (outcome : Outcome)
      (before now : Option (List ℕ)) → WritesOn held (Output Is words) outcome before now →
      IfSome held (λ files. IsLater words → (code_of outcome ≡ 11) ⊎ IsFault (code_of outcome))
  is_later words None outcome before now w = tt
  is_later words (Some files) Done before now w = λ l.
      inl (ap code_of w.3.0 ∙ later_output words files w.0 w.1 w.2 l)
  is_later words (Some files) Negative before now w = λ l.
      inl (ap code_of w.3.0 ∙ later_output words files w.0 w.1 w.2 l)
  is_later words (Some files) FaultyWords before now w = λ l.
      inl (ap code_of w.3.0 ∙ later_output words files w.0 w.1 w.2 l)
  is_later words (Some files) FilesUnread before now w = λ l. inr (inl refl)
  is_later words (Some files) WriteFault before now w = λ l. inr (inr (inl refl))
  is_later words (Some files) Memory before now w = λ l. inr (inr (inr refl))
  is_later words (Some files) Refused before now w = λ l.
      inl (ap code_of w.3.0 ∙ later_output words files w.0 w.1 w.2 l)
  is_later words (Some files) NotBuilt before now w = λ l. inl refl
