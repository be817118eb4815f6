use Rattle.std.proofs.Common.{ℕ, ◌≡◌, ◌<◌, List, [], Some, length, slice_get}
use Rattle.ruby_builtin_keys.proofs.indexed.empty_rows.Given as goal

abbrev pub invariant-loop : goal.invariant-loop
invariant-loop l = record {
  some : 0 < length l.rows.items;
  empty : (row : ℕ) (found : List ℕ) → slice_get l.rows.items row ≡ Some found → found ≡ [];
}
