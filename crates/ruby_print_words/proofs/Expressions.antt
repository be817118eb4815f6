-- The pieces of each expression that texts have are a sentence of the rules of expressions, and it is their value.
use Rattle.std.proofs.Common.{ℕ, List}
use Rattle.ruby_grammar.specs.Rules.{Name}
use Rattle.ruby_print_pieces.specs.Formed as f
use Rattle.ruby_print_pieces.specs.Formed.{Form, Held, Formed, one, some, pairs, parts}
use Rattle.ruby_print_words.proofs.Building.{Eventually, always, so, both, deeper}
use Rattle.ruby_print_words.proofs.Lifting.{Ready}
use Rattle.ruby_print_words.proofs.Primaries.{nil_ready, true_ready, false_ready, self_ready, int_ready, symbol_ready}
use Rattle.ruby_print_words.proofs.Primaries.{ivar_ready, local_ready, constant_ready}
use Rattle.ruby_print_words.proofs.Lists.{Members, no_members, members_more, array_ready, Pairs, no_pairs, pairs_more}
use Rattle.ruby_print_words.proofs.Lists.{hash_ready, Parts, no_parts, plain_more, inside_more, text_ready}
use Rattle.ruby_print_words.proofs.Calls.{self_call_ready, call_ready, index_ready}
use Rattle.ruby_print_words.proofs.Operations.{not_ready, minus_ready, and_ready, or_ready, operation_ready}
use Rattle.ruby_print_words.proofs.Operations.{choice_ready}

-- What is shown of a formed expression's pieces, by its form.
abbrev pub Shown : List Name → (f : Form) → Held f → ℕ → Type 0
Shown names one x = Ready names x
Shown names some xs = Members names xs
Shown names pairs ps = Pairs names ps
Shown names (parts b) ps = Parts names ps

-- The pieces of each formed expression are read as it is.
pub shown : {names : List Name} {f : Form} {x : Held f} → Formed names f x → Eventually (Shown names f x)
shown {names} f.is_nil = always (nil_ready names)
shown {names} f.is_true = always (true_ready names)
shown {names} f.is_false = always (false_ready names)
shown {names} f.is_self = always (self_ready names)
shown {names} (f.is_int {n} h) = always (λ l. int_ready names l n h)
shown {names} (f.is_text {ps} h) = so (λ l r. text_ready names l ps r) (shown h)
shown {names} (f.is_symbol {n} h) = always (λ l. symbol_ready names l n)
shown {names} (f.is_local {n} h e) = always (λ l. local_ready names l n h.free e)
shown {names} (f.is_ivar {n} h) = always (λ l. ivar_ready names l n)
shown {names} (f.is_const {c} h) = always (λ l. constant_ready names l c h)
shown {names} (f.is_array {xs} h) = so (λ l r. array_ready names l xs r) (deeper (shown h))
shown {names} (f.is_hash {ps} h) = so (λ l r. hash_ready names l ps r) (deeper (shown h))
shown {names} (f.is_call_on_self {n} {xs} h k) = so (λ l r. self_call_ready names l n xs h.free r) (deeper (shown k))
shown {names} (f.is_call {x} {n} {xs} h named k) =
    so (λ l r. call_ready names l x n xs named.spelled named.free r.0 r.1) (both (shown h) (deeper (shown k)))
shown {names} (f.is_index {x} {y} h k) = so (λ l r. index_ready names l x y r.0 r.1) (both (shown h) (deeper (shown k)))
shown {names} (f.is_minus {x} h) = minus_ready x (shown h)
shown {names} (f.is_operation_of {x} {y} {n} h e k) = operation_ready x y n e (shown h) (shown k)
shown {names} (f.is_not {x} h) = not_ready x (shown h)
shown {names} (f.is_and {x} {y} h k) = and_ready x y (shown h) (shown k)
shown {names} (f.is_or {x} {y} h k) = or_ready x y (shown h) (shown k)
shown {names} (f.is_choice {x} {y} {z} h k j) = choice_ready x y z (shown h) (shown k) (shown j)
shown {names} f.no_more = always (no_members names)
shown {names} (f.one_more {x} {xs} h k) = so (λ l r. members_more r.0 r.1) (both (shown h) (shown k))
shown {names} f.no_pairs = always (no_pairs names)
shown {names} (f.pair_more {x} {y} {ps} h k j) = so (λ l r. pairs_more r.0 r.1.0 r.1.1)
    (both (shown h) (both (shown k) (shown j)))
shown {names} f.no_parts = always (no_parts names)
shown {names} (f.plain_part {text} {ps} full utf8 h) = so (λ l r. plain_more text r) (shown h)
shown {names} (f.inside_part {x} {ps} h k) = so (λ l r. inside_more names l x ps r.0 r.1)
    (both (deeper (shown h)) (shown k))
