-- Sentences of the grammar over pieces of text, built one piece and one rule at a time.
use Rattle.std.proofs.Common.{◌≡◌, ℕ, zero, suc, ◌+◌, ◌≤◌, Bool, true, List, [], ◌∷◌, ◌++◌, refl, sym, ap, subst}
use Rattle.std.proofs.Common.{append-nil, arith}
use Rattle.descent.specs.Grammar.{Prod, give, token, call, only, Item, word, Among, Is, is_given, is_word, is_called}
use Rattle.ruby_grammar.specs.Words.{Word}
use Rattle.ruby_grammar.specs.Rules.{ruby, Sort, Val, Rule}
use Rattle.ruby_grammar.specs.Language.{ruby_grammar, forms}
use Rattle.ruby_print_pieces.specs.Pieces.{Piece, word_at, behind_piece}

-- the words of pieces as what sentences are made of
abbrev pub items_at : ℕ → List Piece → List (Item ruby)
items_at n [] = []
items_at n (p ∷ ps) = word (word_at n p) ∷ items_at (behind_piece n p) ps

-- the place behind pieces
abbrev pub end_of : ℕ → List Piece → ℕ
end_of n [] = n
end_of n (p ∷ ps) = end_of (behind_piece n p) ps

items-append : (n : ℕ) (ps qs : List Piece) → items_at n (ps ++ qs) ≡ items_at n ps ++ items_at (end_of n ps) qs
items-append n [] qs = refl
items-append n (p ∷ ps) qs = ap (λ ts. word (word_at n p) ∷ ts) (items-append (behind_piece n p) ps qs)

-- These pieces are a sentence of the production wherever they stand, and this is its value.
pub record Sent {s : Sort} (p : Prod ruby s) (ps : List Piece) (x : Val s) : Type 0 where
  pub at : (n : ℕ) → Is ruby_grammar s p (items_at n ps) x

-- The same of a rule: they are a sentence of one of its alternatives.
pub record Reads {s : Sort} (rule : Rule s) (ps : List Piece) (x : Val s) : Type 0 where
  pub form : Prod ruby s
  pub among : Among form (forms rule)
  pub sent : Sent form ps x

-- A sentence of one of a rule's productions is one of the rule.
pub reads : {s : Sort} {rule : Rule s} {form : Prod ruby s} {ps : List Piece} {x : Val s} → Among form (forms rule) →
    Sent form ps x → Reads rule ps x
reads {form} am h = record { form = form; among = am; sent = h }

-- Nothing is a sentence of a value that is given.
pub given : {s : Sort} {x : Val s} → Sent (give x) [] x
given = record { at = λ n. is_given }

-- a piece whose word passes, where what follows doesn't look at its place
pub takes : {s : Sort} {test : Word → Bool} {next : Word → Prod ruby s} {p : Piece} {ps : List Piece} {x : Val s} →
    ((n : ℕ) → test (word_at n p) ≡ true) → ((n : ℕ) → next (word_at n p) ≡ next (word_at 0 p)) →
    Sent (next (word_at 0 p)) ps x → Sent (token test next) (p ∷ ps) x
takes {s} {test} {next} {p} {ps} {x} passes blind h =
    record {
      at = λ n. is_word (passes n)
          (subst (λ q. Is ruby_grammar s q (items_at (behind_piece n p) ps) x) (sym (blind n))
          (h.at (behind_piece n p)));
    }

-- what a rule reads, and what follows
pub then_ : {s v : Sort} {rule : Rule v} {next : Val v → Prod ruby s} {us vs : List Piece} {y : Val v} {x : Val s} →
    Reads rule us y → Sent (next y) vs x → Sent (call rule next) (us ++ vs) x
then_ {us} {vs} r h = record { at = λ n. is_called r.among (r.sent.at n) (h.at (end_of n us)) (items-append n us vs) }

-- pieces that are the same
pub over : {s : Sort} {p : Prod ruby s} {ps qs : List Piece} {x : Val s} → ps ≡ qs → Sent p qs x → Sent p ps x
over {s} {p} {ps} {qs} {x} e h = subst (λ t. Sent p t x) (sym e) h

-- Equal pieces are read alike.
pub over_rule : {s : Sort} {rule : Rule s} {ps qs : List Piece} {x : Val s} → ps ≡ qs → Reads rule qs x →
    Reads rule ps x
over_rule {s} {rule} {ps} {qs} {x} e h = subst (λ t. Reads rule t x) (sym e) h

-- another form of the value
pub valued : {s : Sort} {p : Prod ruby s} {ps : List Piece} {x y : Val s} → x ≡ y → Sent p ps x → Sent p ps y
valued {s} {p} {ps} {x} {y} e h = subst (λ t. Sent p ps t) e h

-- Equal values are read alike.
pub valued_rule : {s : Sort} {rule : Rule s} {ps : List Piece} {x y : Val s} → x ≡ y → Reads rule ps x → Reads rule ps y
valued_rule {s} {rule} {ps} {x} {y} e h = subst (λ t. Reads rule ps t) e h

-- a rule that comes last
pub ends : {s v : Sort} {rule : Rule v} {next : Val v → Prod ruby s} {us : List Piece} {y : Val v} {x : Val s} →
    Reads rule us y → Sent (next y) [] x → Sent (call rule next) us x
ends {us} r h = over (sym (append-nil us)) (then_ r h)

-- A rule's sentence is one of the production that calls it last.
pub says : {s : Sort} {rule : Rule s} {ps : List Piece} {x : Val s} → Reads rule ps x → Sent (only rule) ps x
says r = ends r given

-- ---- with levels enough

-- It holds from some number of levels on.
pub record Eventually (P : ℕ → Type 0) : Type 0 where
  pub least : ℕ
  pub holds : (l : ℕ) → least ≤ l → P l

-- it holds with one level less, where there is one
abbrev pub Under : (ℕ → Type 0) → ℕ → Type 0
Under P zero = ⊥
Under P (suc l) = P l

-- What holds at every level holds from some level on.
pub always : {P : ℕ → Type 0} → ((l : ℕ) → P l) → Eventually P
always h = record { least = 0; holds = λ l e. h l }

-- What follows at each level follows from some level on.
pub so : {P Q : ℕ → Type 0} → ((l : ℕ) → P l → Q l) → Eventually P → Eventually Q
so f p = record { least = p.least; holds = λ l e. f l (p.holds l e) }

-- Two that hold from some level on hold together from the greater one on.
pub both : {P Q : ℕ → Type 0} → Eventually P → Eventually Q → Eventually (λ l. P l × Q l)
both p q = record { least = p.least + q.least; holds = λ l e. (p.holds l (omega arith), q.holds l (omega arith)) }

under_at : {P : ℕ → Type 0} (p : Eventually P) (l : ℕ) → suc p.least ≤ l → Under P l
under_at p zero e = absurd (omega arith)
under_at p (suc l) e = p.holds l (omega arith)

-- What holds from some level on holds inside one more level.
pub deeper : {P : ℕ → Type 0} → Eventually P → Eventually (Under P)
deeper p = record { least = suc p.least; holds = λ l e. under_at p l e }
