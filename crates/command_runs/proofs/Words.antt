-- What the words of a command line ask, and that they ask one thing.
use Rattle.std.proofs.Common.{◌≡◌, ◌⊎◌, inl, inr, ℕ, List, [], ◌∷◌, Option, Some, None, length, refl, sym, ap}
use Rattle.std.proofs.Common.{◌∙◌, subst, arith, true, false}
use Rattle.command_words.specs.Command.{Spells, SpellsConnections}
use Rattle.command_words.specs.Words.{IsCommand, IsCommandLine, AreConnections, name_text}
use Rattle.command_words.specs.declared.words.CommandName.{CommandName}
use Rattle.command_words.specs.declared.words.CommandName.TheVariants as n
use Rattle.command_words.specs.declared.words.Command.TheVariants.{Replay, Demo, Serve}
use Rattle.std.specs.Borrow.{Bor}
use Rattle.command_runs.specs.Asked.{Asks, IsTooLong, IsLater}
use Rattle.command_runs.specs.declared.answer.Question.{Question}
use Rattle.command_runs.specs.declared.answer.Question.TheVariants.{Reply, Check, Listing}

abbrev byte_of : List ℕ → ℕ
byte_of [] = 0
byte_of (b ∷ bytes) = b

-- the first byte of the first word
abbrev letter : List (List ℕ) → ℕ
letter [] = 0
letter (w ∷ ws) = byte_of w

abbrev second : List (List ℕ) → List ℕ
second [] = []
second (w ∷ []) = []
second (w ∷ v ∷ ws) = v

command_letter : (name : CommandName) (words : List (List ℕ)) → IsCommand name words →
    letter words ≡ byte_of (name_text name)
command_letter name [] h = absurd h
command_letter name (w ∷ ws) h = ap byte_of h.0

-- the first bytes of what is asked
abbrev Asking : ℕ → Type 0
Asking b = (b ≡ 103) ⊎ ((b ≡ 99) ⊎ (b ≡ 116))

-- the first bytes of what is not built yet
abbrev Later : ℕ → Type 0
Later b = (b ≡ 114) ⊎ ((b ≡ 100) ⊎ (b ≡ 115))

apart : (b : ℕ) → Asking b → Later b → ⊥
apart b (inl e) (inl f) = omega (arith, e, f)
apart b (inl e) (inr (inl f)) = omega (arith, e, f)
apart b (inl e) (inr (inr f)) = omega (arith, e, f)
apart b (inr (inl e)) (inl f) = omega (arith, e, f)
apart b (inr (inl e)) (inr (inl f)) = omega (arith, e, f)
apart b (inr (inl e)) (inr (inr f)) = omega (arith, e, f)
apart b (inr (inr e)) (inl f) = omega (arith, e, f)
apart b (inr (inr e)) (inr (inl f)) = omega (arith, e, f)
apart b (inr (inr e)) (inr (inr f)) = omega (arith, e, f)

asks_letter : (words : List (List ℕ)) (question : Question) → Asks words question → Asking (letter words)
asks_letter words (Reply request) h = inl (ap letter h.1.0)
asks_letter words (Check false) h = inr (inl (ap letter h))
asks_letter words (Check true) h = inr (inl (ap letter h))
asks_letter words Listing h = inr (inr (ap letter h))

later_letter : (words : List (List ℕ)) → IsLater words → Later (letter words)
later_letter words (inl h) = inl (command_letter n.Replay words h)
later_letter words (inr (inl h)) = inr (inl (command_letter n.Demo words h))
later_letter words (inr (inr h)) = inr (inr (command_letter n.Serve words h))

long_letter : (words : List (List ℕ)) → IsTooLong words → letter words ≡ 103
long_letter words h = ap letter h.1.0

-- what is asked is built
pub asked_is_built : (words : List (List ℕ)) (question : Question) → Asks words question → IsLater words → ⊥
asked_is_built words question h k = apart (letter words) (asks_letter words question h) (later_letter words k)

-- a target that is too long is one of `get`
pub long_is_built : (words : List (List ℕ)) → IsTooLong words → IsLater words → ⊥
long_is_built words h k = apart (letter words) (inl (long_letter words h)) (later_letter words k)

-- what is asked of the files has no target that is too long
pub asked_is_short : (words : List (List ℕ)) (question : Question) → Asks words question → IsTooLong words → ⊥
asked_is_short words (Reply request) h k =
    let same : h.0 ≡ k.0 = sym (ap second h.1.0) ∙ ap second k.1.0 in
    let lengths : length h.0 ≡ length k.0 = ap length same in
    omega (arith, lengths, h.2, k.2)
asked_is_short words (Check false) h k =
    let e : letter words ≡ 99 = ap letter h in let f = long_letter words k in omega (arith, e, f)
asked_is_short words (Check true) h k =
    let e : letter words ≡ 99 = ap letter h in let f = long_letter words k in omega (arith, e, f)
asked_is_short words Listing h k =
    let e : letter words ≡ 116 = ap letter h in let f = long_letter words k in omega (arith, e, f)

-- what is asked of the files needs their being read
pub asked_is_read : (words : List (List ℕ)) (question : Question) → Asks words question →
    IsLater words ⊎ IsTooLong words → ⊥
asked_is_read words question h (inl later) = asked_is_built words question h later
asked_is_read words question h (inr long) = asked_is_short words question h long

-- ---- command lines

-- what asks is a command line
pub asked_is_command : (words : List (List ℕ)) (question : Question) → Asks words question → IsCommandLine words
asked_is_command words (Reply request) h = subst IsCommandLine (sym h.1.0) (n.Get, (refl, h.1.1))
asked_is_command words (Check false) h = subst IsCommandLine (sym h) (n.Check, (refl, tt))
asked_is_command words (Check true) h = subst IsCommandLine (sym h) (n.Check, (refl, refl))
asked_is_command words Listing h = subst IsCommandLine (sym h) (n.Tree, (refl, refl))

-- so is what is not built yet
pub later_is_command : (words : List (List ℕ)) → IsLater words → IsCommandLine words
later_is_command words (inl h) = (n.Replay, h)
later_is_command words (inr (inl h)) = (n.Demo, h)
later_is_command words (inr (inr h)) = (n.Serve, h)

are_connections : (connections : Option ℕ) (words : List (List ℕ)) → SpellsConnections connections words →
    AreConnections words
are_connections None words is = subst AreConnections (sym is) tt
are_connections (Some number) words (word, is, reads) = subst AreConnections (sym is) (number, reads)

-- the words of `replay` are not built yet
pub replay_is_later : (words : List (List ℕ)) → Spells Replay words → IsLater words
replay_is_later words is = inl (subst (IsCommand n.Replay) (sym is) (refl, refl))

-- the words of `demo` are not built yet
pub demo_is_later : (number : ℕ) (words : List (List ℕ)) → Spells (Demo number) words → IsLater words
demo_is_later number words (word, is, reads) =
    inr (inl (subst (IsCommand n.Demo) (sym is) (refl, (number, reads))))

-- the words of `serve` are not built yet
pub serve_is_later : (address : Bor (List ℕ)) (workers : ℕ) (connections : Option ℕ) (words : List (List ℕ)) →
    Spells (Serve address workers connections) words → IsLater words
serve_is_later address workers connections words (word, rest, is, some, reads, more) =
    inr (inr (subst (IsCommand n.Serve) (sym is)
    (refl, (some, (workers, reads), are_connections connections rest more))))
