-- The rows of Hash give its keys and values, arrays and hashes of them, numbers and truth values.
use Rattle.std.proofs.Common.{◌≡◌, Bool, true, false, List, [], ◌∷◌, Option, Some, None, map, refl, subst}
use Rattle.std.specs.Prelude.{unwrap_or, is_some, length, nat_eq, if◌then◌else◌}
use Rattle.std.proofs.lemmas.Option.{none-some, same_Some}
use Rattle.ruby_types.specs.Same.{same}
use Rattle.ruby_types.specs.declared.value.Value.{Value}
use Rattle.ruby_types.specs.declared.value.Value.TheVariants.{Array, Hash}
use Rattle.ruby_builtin_base.specs.Answers.{Gives}
use Rattle.ruby_builtin_base.specs.Results.{count, truth}
use Rattle.ruby_builtin_arrays.specs.Members.{or_nil}
use Rattle.ruby_builtin_keys.specs.Merging.{put, merged}
use Rattle.ruby_builtin_hashes.specs.HashRows.{or_missing, fetched, hash_rows}
use Rattle.ruby_builtin_hashes.specs.Pairs.{value_at, pair_array}
use Rattle.program_places.specs.Places.{Index}
use Rattle.program_places.specs.Tasks.{EachIs}
use Rattle.program_built_ins.specs.Rows.{AnswerStands, MethodStands, RowsStand}
use Rattle.program_values.specs.Standing.{Stands, PairStands}
use Rattle.program_values.proofs.Values.{array_stands, hash_stands, put_stand}
use Rattle.program_built_ins.proofs.Arguments.{◌and◌, none_stands}
use Rattle.program_built_ins.proofs.Arguments.{value_stands, hash_row_stands, count_stands, truth_stands}
use Rattle.program_built_ins.proofs.Arrays.{or_nil_stands}

module _ (index : Index) where
  value_here : (found : Bool) (value : Value) (later : Option Value) (v : Value) → Stands index value →
      (later ≡ Some v → Stands index v) → (if found then Some value else later) ≡ Some v → Stands index v
  value_here true value later v h k is = subst (Stands index) (same_Some value v is) h
  value_here false value later v h k is = k is

  -- the value of a key
  value_at_stands : (ps : List (Value × Value)) (key v : Value) → EachIs (PairStands index) ps →
      value_at ps key ≡ Some v → Stands index v
  value_at_stands [] key v each is = absurd (none-some v is)
  value_at_stands (p ∷ ps) key v each is = value_here (same p.0 key) p.1 (value_at ps key) v each.0.1
      (value_at_stands ps key v each.1) is

  or_missing_stands : (key : Value) (o : Option Value) → ((v : Value) → o ≡ Some v → Stands index v) →
      AnswerStands index (or_missing key o)
  or_missing_stands key None h = tt
  or_missing_stands key (Some v) h = h v refl

  unwrapped_stands : (o : Option Value) (other : Value) → ((v : Value) → o ≡ Some v → Stands index v) →
      Stands index other → Stands index (unwrap_or o other)
  unwrapped_stands None other h k = k
  unwrapped_stands (Some v) other h k = h v refl

  fetched_stands : (ps : List (Value × Value)) → EachIs (PairStands index) ps → MethodStands index (fetched ps)
  fetched_stands ps h [] each = tt
  fetched_stands ps h (key ∷ []) each =
      or_missing_stands key (value_at ps key) (λ v. value_at_stands ps key v h)
  fetched_stands ps h (key ∷ other ∷ []) each =
      unwrapped_stands (value_at ps key) other (λ v. value_at_stands ps key v h) each.1.0
  fetched_stands ps h (key ∷ other ∷ next ∷ args) each = tt

  keys_stand : (ps : List (Value × Value)) → EachIs (PairStands index) ps → EachIs (Stands index) (map (λ p. p.0) ps)
  keys_stand [] each = tt
  keys_stand (p ∷ ps) each = (each.0.0, keys_stand ps each.1)

  values_stand : (ps : List (Value × Value)) → EachIs (PairStands index) ps →
      EachIs (Stands index) (map (λ p. p.1) ps)
  values_stand [] each = tt
  values_stand (p ∷ ps) each = (each.0.1, values_stand ps each.1)

  pair_arrays_stand : (ps : List (Value × Value)) → EachIs (PairStands index) ps →
      EachIs (Stands index) (map pair_array ps)
  pair_arrays_stand [] each = tt
  pair_arrays_stand (p ∷ ps) each =
      (array_stands index (p.0 ∷ p.1 ∷ []) (each.0.0, (each.0.1, tt)), pair_arrays_stand ps each.1)

  merged_stand : (ps qs : List (Value × Value)) → EachIs (PairStands index) ps → EachIs (PairStands index) qs →
      EachIs (PairStands index) (merged ps qs)
  merged_stand ps [] each more = each
  merged_stand ps (q ∷ qs) each more = merged_stand (put ps q) qs (put_stand index ps q each more.0) more.1

  -- what a row of Hash gives stands, where the pairs do
  pub hash_rows_stand : RowsStand index (EachIs (PairStands index)) hash_rows
  hash_rows_stand =
      (λ ps h. value_stands index (λ key. Gives (or_nil (value_at ps key)))
      (λ key k. or_nil_stands index (value_at ps key) (λ v. value_at_stands ps key v h)))
      and (λ ps h. none_stands index (truth (nat_eq (length ps) 0)) (truth_stands index (nat_eq (length ps) 0)))
      and (λ ps h. fetched_stands ps h)
      and (λ ps h. value_stands index (λ key. truth (is_some (value_at ps key)))
      (λ key k. truth_stands index (is_some (value_at ps key))))
      and (λ ps h. none_stands index (Gives (Array (map (λ p. p.0) ps)))
      (array_stands index (map (λ p. p.0) ps) (keys_stand ps h)))
      and (λ ps h. none_stands index (count (length ps)) (count_stands index (length ps)))
      and (λ ps h. hash_row_stands index (λ qs. Gives (Hash (merged ps qs)))
      (λ qs k. hash_stands index (merged ps qs) (merged_stand ps qs h k)))
      and (λ ps h. none_stands index (count (length ps)) (count_stands index (length ps)))
      and (λ ps h. none_stands index (Gives (Array (map pair_array ps)))
      (array_stands index (map pair_array ps) (pair_arrays_stand ps h)))
      and (λ ps h. none_stands index (Gives (Array (map (λ p. p.1) ps)))
      (array_stands index (map (λ p. p.1) ps) (values_stand ps h)))
      and tt
