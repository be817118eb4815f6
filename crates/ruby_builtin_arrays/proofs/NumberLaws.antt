-- How the sum of members that are numbers goes on by one member.
use Rattle.std.proofs.Common.{◌≡◌, ℕ, ◌+◌, ◌<◌, ℤ, ◌+ℤ◌, Option, Some, None, List, length, get_or, drop, refl}
use Rattle.std.proofs.Common.{ap}
use Rattle.std.proofs.Common.{◌∙◌, sym, drop-cons, add-one}
use Rattle.std.proofs.Math.IntN.{+ℤ_assoc}
use Rattle.std.specs.Prelude.{option_map}
use Rattle.ruby_types.specs.declared.value.Value.{Value, out-Value}
use Rattle.ruby_types.specs.declared.value.Value.TheOpen as layer
use Rattle.ruby_types.specs.declared.value.Value.TheVariants.{Int, outs-Int}
use Rattle.ruby_builtin_arrays.specs.Numbers.{before, numbers, total}

-- a sum so far, and what is left of the whole sum, where there is one
abbrev pub more : ℤ → Option ℤ → Option ℤ
more so_far None = None
more so_far (Some rest) = Some (so_far +ℤ rest)

more-before : (so_far number : ℤ) (others : Option (List ℤ)) →
    more so_far (option_map total (before (layer.Int number) others))
    ≡ more (so_far +ℤ number) (option_map total others)
more-before so_far number None = refl
more-before so_far number (Some others) = ap (λ n. Some n) (sym (+ℤ_assoc so_far number (total others)))

numbers-drop : (members : List Value) (i : ℕ) (member : Value) → i < length members →
    numbers (drop i members) ≡ before (out-Value (get_or members i member)) (numbers (drop (i + 1) members))
numbers-drop members i member within = rw (drop-cons members i member, add-one) refl

-- the whole sum stays the same when a member that is a number is added to the sum so far
pub total-more : (members : List Value) (i : ℕ) (so_far next number : ℤ) (member : Value) (whole : Option ℤ) →
    i < length members → member ≡ get_or members i member → member ≡ Int number →
    more so_far (option_map total (numbers (drop i members))) ≡ whole → next ≡ so_far +ℤ number →
    more next (option_map total (numbers (drop (i + 1) members))) ≡ whole
total-more members i so_far next number member whole within here is_int before_it is_next =
    ap (λ n. more n (option_map total (numbers (drop (i + 1) members)))) is_next
    ∙ sym (more-before so_far number (numbers (drop (i + 1) members)))
    ∙ ap (λ l. more so_far (option_map total (before l (numbers (drop (i + 1) members)))))
    (sym (ap out-Value (sym here ∙ is_int) ∙ outs-Int number))
    ∙ ap (λ o. more so_far (option_map total o)) (sym (numbers-drop members i member within))
    ∙ before_it
