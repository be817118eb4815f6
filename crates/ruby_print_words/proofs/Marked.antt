-- Sentences with marks, from a place on: what is counted of their marks is what they do and where, not their places.
use Rattle.std.proofs.Common.{◌≡◌, ℕ, Bool, true, ◌||◌, List, [], ◌∷◌, ◌++◌, map, refl, sym, ap, subst, ◌∙◌, append-nil}
use Rattle.descent.specs.Grammar.{Prod, give, token, call, mark, only, Item, word, marked, words, Clear, Among, Is}
use Rattle.descent.specs.Grammar.{is_given, is_word, is_marked, is_called}
use Rattle.ruby_grammar.specs.Words.{Word}
use Rattle.ruby_grammar.specs.Marks.{Mark, clash, clashes_any}
use Rattle.ruby_grammar.specs.Rules.{ruby, Sort, Val, Rule}
use Rattle.ruby_grammar.specs.Language.{ruby_grammar, forms}
use Rattle.ruby_print_pieces.specs.Pieces.{Piece, word_at, behind_piece, words_at}
use Rattle.ruby_print_pieces.specs.FormedFiles.{Deed, deed, mark_of, Apart}
use Rattle.ruby_print_words.proofs.Building.{items_at, end_of, Sent, Reads}

-- ---- the deeds of items

-- What a mark says without its place.
abbrev pub deed_of : Mark → Deed
deed_of m = deed m.path m.act

-- The deeds of a sentence, in order.
abbrev pub deeds_in : List (Item ruby) → List Deed
deeds_in [] = []
deeds_in (word w ∷ ts) = deeds_in ts
deeds_in (marked m ∷ ts) = deed_of m ∷ deeds_in ts

deeds-append : (ts us : List (Item ruby)) → deeds_in (ts ++ us) ≡ deeds_in ts ++ deeds_in us
deeds-append [] us = refl
deeds-append (word w ∷ ts) us = deeds-append ts us
deeds-append (marked m ∷ ts) us = ap (λ ds. deed_of m ∷ ds) (deeds-append ts us)

words-append : (ts us : List (Item ruby)) → words (ts ++ us) ≡ words ts ++ words us
words-append [] us = refl
words-append (word w ∷ ts) us = ap (λ ws. w ∷ ws) (words-append ts us)
words-append (marked m ∷ ts) us = words-append ts us

words_at-append : (n : ℕ) (ps qs : List Piece) → words_at n (ps ++ qs) ≡ words_at n ps ++ words_at (end_of n ps) qs
words_at-append n [] qs = refl
words_at-append n (p ∷ ps) qs = ap (λ ws. word_at n p ∷ ws) (words_at-append (behind_piece n p) ps qs)

words_of_items : (n : ℕ) (ps : List Piece) → words (items_at n ps) ≡ words_at n ps
words_of_items n [] = refl
words_of_items n (p ∷ ps) = ap (λ ws. word_at n p ∷ ws) (words_of_items (behind_piece n p) ps)

no_deeds : (n : ℕ) (ps : List Piece) → deeds_in (items_at n ps) ≡ []
no_deeds n [] = refl
no_deeds n (p ∷ ps) = no_deeds (behind_piece n p) ps

-- ---- sentences

-- These pieces are a sentence of the production, from this place on and with some marks, which do this.
pub record Marked {s : Sort} (n : ℕ) (p : Prod ruby s) (ps : List Piece) (ds : List Deed) (x : Val s) : Type 0 where
  pub items : List (Item ruby)
  pub spelled : words items ≡ words_at n ps
  pub does : deeds_in items ≡ ds
  pub says : Is ruby_grammar s p items x

-- The same of a rule: they are one of one of its alternatives.
pub record Tells {s : Sort} (n : ℕ) (rule : Rule s) (ps : List Piece) (ds : List Deed) (x : Val s) : Type 0 where
  pub form : Prod ruby s
  pub among : Among form (forms rule)
  pub told : Marked n form ps ds x

-- A marked sentence of one of a rule's productions is one of the rule.
pub tells : {s : Sort} {n : ℕ} {rule : Rule s} {form : Prod ruby s} {ps : List Piece} {ds : List Deed} {x : Val s} →
    Among form (forms rule) → Marked n form ps ds x → Tells n rule ps ds x
tells {form} am h = record { form = form; among = am; told = h }

-- a sentence with no marks
pub unmarked : {s : Sort} {n : ℕ} {p : Prod ruby s} {ps : List Piece} {x : Val s} → Sent p ps x → Marked n p ps [] x
unmarked {n} {ps} h = record {
  items = items_at n ps;
  spelled = words_of_items n ps;
  does = no_deeds n ps;
  says =
      h.at n;
}

-- A sentence without marks is a marked one without deeds.
pub tells_of : {s : Sort} {n : ℕ} {rule : Rule s} {ps : List Piece} {x : Val s} → Reads rule ps x → Tells n rule ps [] x
tells_of r = tells r.among (unmarked r.sent)

-- Nothing is a marked sentence of a value that is given.
pub m_given : {s : Sort} {n : ℕ} {x : Val s} → Marked n (give x) [] [] x
m_given = record { items = []; spelled = refl; does = refl; says = is_given }

-- A piece that passes the test comes first.
pub m_takes : {s : Sort} {n : ℕ} {test : Word → Bool} {next : Word → Prod ruby s} {p : Piece} {ps : List Piece}
    {ds : List Deed} {x : Val s} →
    test (word_at n p) ≡ true → Marked (behind_piece n p) (next (word_at n p)) ps ds x →
    Marked n (token test next) (p ∷ ps) ds x
m_takes {n} {p} e h = record {
  items = word (word_at n p) ∷ h.items;
  spelled = ap (λ ws. word_at n p ∷ ws) h.spelled;
  does = h.does;
  says = is_word e h.says;
}

-- A mark's deed comes first.
pub m_mark : {s : Sort} {n : ℕ} {m : Mark} {p : Prod ruby s} {ps : List Piece} {ds : List Deed} {x : Val s} →
    Marked n p ps ds x → Marked n (mark m p) ps (deed_of m ∷ ds) x
m_mark {m} h = record {
  items = marked m ∷ h.items;
  spelled = h.spelled;
  does = ap (λ ds. deed_of m ∷ ds) h.does;
  says = is_marked h.says;
}

-- A rule's sentence comes before what follows it, and so do its deeds.
pub m_then : {s v : Sort} {n : ℕ} {rule : Rule v} {next : Val v → Prod ruby s} {us vs : List Piece}
    {ds es : List Deed} {y : Val v} {x : Val s} →
    Tells n rule us ds y → Marked (end_of n us) (next y) vs es x → Marked n (call rule next) (us ++ vs) (ds ++ es) x
m_then {n} {us} {vs} {ds} {es} r h = let t = r.told in record {
  items = t.items ++ h.items;
  spelled = words-append t.items h.items ∙ (λ i. t.spelled i ++ h.spelled i) ∙ sym (words_at-append n us vs);
  does = deeds-append t.items h.items ∙ (λ i. t.does i ++ h.does i);
  says = is_called r.among t.says h.says refl;
}

-- other spellings of the pieces, of what is done and of the value
pub m_over : {s : Sort} {n : ℕ} {p : Prod ruby s} {ps qs : List Piece} {ds : List Deed} {x : Val s} → ps ≡ qs →
    Marked n p qs ds x → Marked n p ps ds x
m_over {n} {p} {ds} {x} e h = subst (λ t. Marked n p t ds x) (sym e) h

-- Equal pieces tell alike.
pub tells_over : {s : Sort} {n : ℕ} {rule : Rule s} {ps qs : List Piece} {ds : List Deed} {x : Val s} → ps ≡ qs →
    Tells n rule qs ds x → Tells n rule ps ds x
tells_over {n} {rule} {ds} {x} e h = subst (λ t. Tells n rule t ds x) (sym e) h

m_does : {s : Sort} {n : ℕ} {p : Prod ruby s} {ps : List Piece} {ds es : List Deed} {x : Val s} → ds ≡ es →
    Marked n p ps ds x → Marked n p ps es x
m_does {n} {p} {ps} {x} e h = subst (λ t. Marked n p ps t x) e h

-- Equal values tell alike.
pub m_valued : {s : Sort} {n : ℕ} {p : Prod ruby s} {ps : List Piece} {ds : List Deed} {x y : Val s} → x ≡ y →
    Marked n p ps ds x → Marked n p ps ds y
m_valued {n} {p} {ps} {ds} e h = subst (λ t. Marked n p ps ds t) e h

-- what follows has no marks
pub m_then_plain : {s v : Sort} {n : ℕ} {rule : Rule v} {next : Val v → Prod ruby s} {us vs : List Piece}
    {ds : List Deed} {y : Val v} {x : Val s} →
    Tells n rule us ds y → Marked (end_of n us) (next y) vs [] x → Marked n (call rule next) (us ++ vs) ds x
m_then_plain {ds} r h = m_does (append-nil ds) (m_then r h)

-- a rule that comes last
pub m_ends : {s v : Sort} {n : ℕ} {rule : Rule v} {next : Val v → Prod ruby s} {us : List Piece} {ds : List Deed}
    {y : Val v} {x : Val s} →
    Tells n rule us ds y → Marked (end_of n us) (next y) [] [] x → Marked n (call rule next) us ds x
m_ends {us} r h = m_over (sym (append-nil us)) (m_then_plain r h)

-- A rule's marked sentence is one of the production that calls it last.
pub m_says : {s : Sort} {n : ℕ} {rule : Rule s} {ps : List Piece} {ds : List Deed} {x : Val s} →
    Tells n rule ps ds x → Marked n (only rule) ps ds x
m_says r = m_ends r m_given

-- ---- no mark of a sentence clashes

abbrev without_place : Mark → Mark
without_place m = mark_of (deed_of m)

places_aside : (ms : List Mark) (m : Mark) → clashes_any ms m ≡ clashes_any (map without_place ms) (without_place m)
places_aside [] m = refl
places_aside (x ∷ xs) m = ap (λ b. clash m x || b) (places_aside xs m)

-- Deeds that are apart make no mark clash.
pub clear_of : (ms : List Mark) (ts : List (Item ruby)) → Apart (map without_place ms) (deeds_in ts) →
    Clear ruby_grammar ms ts
clear_of ms [] h = tt
clear_of ms (word w ∷ ts) h = clear_of ms ts h
clear_of ms (marked m ∷ ts) h = (places_aside ms m ∙ h.0, clear_of (m ∷ ms) ts h.1)
