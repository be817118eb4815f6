-- How long joined texts are, and that members weigh the same in any order.
use Rattle.std.proofs.Common.{◌≡◌, ℕ, ◌+◌, List, [], ◌∷◌, ◌++◌, length, map, reverse, refl, ap, ◌∙◌, length-append}
use Rattle.std.proofs.Common.{arith}
use Rattle.std.specs.List.{sum}
use Rattle.std.proofs.lemmas.Grind.{common_steps}
use Rattle.std.proofs.lemmas.List.{reverse-append}
use Rattle.ruby_types.specs.Size.{size}
use Rattle.ruby_types.specs.declared.value.Value.{Value}
use Rattle.ruby_builtin_base.specs.Printed.{to_s}
use Rattle.ruby_builtin_arrays.specs.Members.{each_behind, joined_by, behind_size}

-- each member adds its text and the one before it
length-behind : (between : List ℕ) (members : List Value) →
    length (each_behind between (map to_s members)) ≡ sum (map (behind_size between) members)
length-behind between [] = refl
length-behind between (member ∷ members) =
    let rest = length-behind between members in
    let first = length-append between (to_s member ++ each_behind between (map to_s members)) in
    let second = length-append (to_s member) (each_behind between (map to_s members)) in
    grind (arith, common_steps)

-- the bytes of joined members: those of the first, and what each other adds
pub joined_lengths : (between : List ℕ) (first : Value) (others : List Value) →
    length (joined_by between (map to_s (first ∷ others)))
    ≡ length (to_s first) + sum (map (behind_size between) others)
joined_lengths between first others =
    let all = length-append (to_s first) (each_behind between (map to_s others)) in
    let rest = length-behind between others in
    omega arith

sum-sizes-append : (first second : List Value) →
    sum (map size (first ++ second)) ≡ sum (map size first) + sum (map size second)
sum-sizes-append first second = grind (arith, common_steps)

-- members weigh the same the other way round
pub sizes_reversed : (members : List Value) → sum (map size (reverse members)) ≡ sum (map size members)
sizes_reversed [] = refl
sizes_reversed (member ∷ members) =
    ap (λ list. sum (map size list)) (reverse-append (member ∷ []) members)
    ∙ sum-sizes-append (reverse members) (member ∷ [])
    ∙ (let rest = sizes_reversed members in grind (arith, common_steps))
