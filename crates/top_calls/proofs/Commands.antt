-- Which words the commands have.
use Rattle.std.proofs.Common.{◌≡◌, ℕ, List, [], ◌∷◌, codes, slice_index, refl, sym, ap, ◌∙◌, subst}
use Rattle.std.proofs.Common.{arith}
use Rattle.std.specs.Borrow.{Bor}
use Rattle.command_words.specs.Words.{IsCommandLine}
use Rattle.top_calls.specs.Target.{IsFirstTarget}
use Rattle.top_calls.specs.Output.{IsFirstGet, IsOtherCommand, IsGet, tree_words}
use Rattle.command_words.specs.Command.{Spells}
use Rattle.command_words.proofs.Commands.{is_command_line}
use Rattle.command_words.specs.declared.words.CommandName.TheVariants as n
use Rattle.command_words.specs.declared.words.Command.{Command}
use Rattle.command_words.specs.declared.words.Command.TheVariants.{Get, Check, CheckEager, Tree, Replay, Demo, Serve}

-- ---- which question the words ask

-- the first of the words
first_word : (w v : List ℕ) (ws vs : List (List ℕ)) → w ∷ ws ≡ v ∷ vs → w ≡ v
first_word w v ws vs e = cc

-- a word of another first letter is another word
other_word : (word name : List ℕ) (rest more : List (List ℕ)) → (slice_index word 0 ≡ slice_index name 0 → ⊥) →
    word ∷ rest ≡ name ∷ more → ⊥
other_word word name rest more other e = other (ap (λ w. slice_index w 0) (first_word word name rest more e))

one_argument : (arguments : List (List ℕ)) (target : List ℕ) →
    ◌≡◌ {A = List (List ℕ)} (codes "get" ∷ arguments) (codes "get" ∷ target ∷ []) → arguments ≡ target ∷ []
one_argument arguments target e = cc

one_target : (target other : List ℕ) → ◌≡◌ {A = List (List ℕ)} (target ∷ []) (other ∷ []) → other ≡ target
one_target target other e = cc

-- `get` is no `tree`
pub get_is_no_tree : (words : List (List ℕ)) (controller action : List ℕ) → IsFirstGet words controller action →
    words ≡ tree_words → ⊥
get_is_no_tree words controller action get e =
    other_word (codes "get") (codes "tree") (get.0 ∷ []) [] (λ n. absurd (omega (arith, n))) (sym get.1 ∙ e)

-- the word `tree` alone is a command line
pub tree_is_command : (words : List (List ℕ)) → words ≡ tree_words → IsCommandLine words
tree_is_command words e = subst IsCommandLine (sym e) (n.Tree, (refl, refl))

-- words whose first is neither `get` nor `tree`
other_words : (words rest : List (List ℕ)) (name : List ℕ) → words ≡ name ∷ rest →
    (slice_index name 0 ≡ 103 → ⊥) → (slice_index name 0 ≡ 116 → ⊥) → IsCommandLine words →
    IsOtherCommand words × ¬ (IsGet words)
other_words words rest name is no_get no_tree line = (
  (
    line,
    λ controller action get. other_word name (codes "get") rest (get.0 ∷ []) no_get (sym is ∙ get.1),
    λ e. other_word name (codes "tree") rest [] no_tree (sym is ∙ e),
  ),
  λ get. other_word name (codes "get") rest (get.0 ∷ []) no_get (sym is ∙ get.1),
)

-- a command that is neither `get` nor `tree` is not built
pub asks_nothing : (command : Command) (words : List (List ℕ)) → Spells command words →
    ((target : Bor (List ℕ)) → command ≡ Get target → ⊥) → (command ≡ Tree → ⊥) →
    IsOtherCommand words × ¬ (IsGet words)
asks_nothing (Get target) words is no_get no_tree = absurd (no_get target refl)
asks_nothing Check words is no_get no_tree =
    other_words words [] (codes "check") is (λ h. absurd (omega (arith, h))) (λ h. absurd (omega (arith, h)))
    (is_command_line Check words is)
asks_nothing CheckEager words is no_get no_tree =
    other_words words (codes "eager" ∷ []) (codes "check") is (λ h. absurd (omega (arith, h)))
    (λ h. absurd (omega (arith, h))) (is_command_line CheckEager words is)
asks_nothing Tree words is no_get no_tree = absurd (no_tree refl)
asks_nothing Replay words is no_get no_tree =
    other_words words [] (codes "replay") is (λ h. absurd (omega (arith, h))) (λ h. absurd (omega (arith, h)))
    (is_command_line Replay words is)
asks_nothing (Demo number) words is no_get no_tree =
    other_words words (is.0 ∷ []) (codes "demo") is.1 (λ h. absurd (omega (arith, h)))
    (λ h. absurd (omega (arith, h))) (is_command_line (Demo number) words is)
asks_nothing (Serve address workers connections) words is no_get no_tree =
    other_words words (address.now ∷ is.0 ∷ is.1) (codes "serve") is.2 (λ h. absurd (omega (arith, h)))
    (λ h. absurd (omega (arith, h))) (is_command_line (Serve address workers connections) words is)

-- a request with a target that is answered today
pub asks_reply : (target : Bor (List ℕ)) (words : List (List ℕ)) (controller action : List ℕ) →
    Spells (Get target) words → IsFirstTarget target.now controller action → IsFirstGet words controller action
asks_reply target words controller action (is, fits) first = (target.now, is, fits, first)

-- a request with another target
pub asks_other_target : (target : Bor (List ℕ)) (words : List (List ℕ)) → Spells (Get target) words →
    ((controller action : List ℕ) → ¬ (IsFirstTarget target.now controller action)) →
    IsOtherCommand words × IsGet words
asks_other_target target words (is, fits) other = (
  (
    is_command_line (Get target) words (is, fits),
    λ controller action get.
        (let same : get.0 ≡ target.now =
        one_target target.now get.0 (one_argument (target.now ∷ []) get.0 (sym is ∙ get.1)) in
        other controller action (subst (λ t. IsFirstTarget t controller action) same get.3)),
    λ e. other_word (codes "get") (codes "tree") (target.now ∷ []) [] (λ h. absurd (omega (arith, h))) (sym is ∙ e),
  ),
  (target.now, is),
)
