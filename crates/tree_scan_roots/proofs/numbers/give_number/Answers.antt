use Rattle.std.proofs.Common.{◌≡◌, ℕ, List, Some, cond, subst}
use Rattle.std.specs.Prelude.{bytes_eq}
use Rattle.tree_scan_roots.specs.Keys.{number_of}
use Rattle.tree_scan_roots.proofs.KeyLaws.{number_update}
use Rattle.tree_scan_roots.proofs.numbers.give_number.Goals as goal

pub returns : goal.returns
returns c =
    let key = c.in_ok-from_slice.field-0 in
    let e : key.items ≡ c.args.path.now = c.in_ok-from_slice.ensures.items in
    subst
    (λ (bytes : List ℕ). (other : List ℕ) → number_of c.insert.new.self other
    ≡ cond (bytes_eq bytes other) (Some c.args.number) (number_of c.args.numbers.now other))
    e
    (number_update key.items c.args.numbers.now c.insert.new.self (Some c.args.number) c.in_ok-insert.ensures.updates)
