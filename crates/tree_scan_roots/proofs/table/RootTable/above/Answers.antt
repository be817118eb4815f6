use Rattle.std.proofs.Common.{◌≡◌, ◌<◌, ◌≤◌, ◌+◌, ◌-◌, length, take, sym, ◌∙◌, subst, arith, Some}
use Rattle.tree_scan_roots.specs.Keys.{number_of, IsNumbering}
use Rattle.tree_scan_roots.specs.Directories.{IsAbove}
use Rattle.tree_scan_roots.specs.Roots.{root_paths}
use Rattle.tree_scan_roots.specs.Above.{IsLongestAbove}
use Rattle.tree_scan_roots.proofs.AboveLaws.{AllShorter, shorter_still, longest_here, some_case, none_case}
use Rattle.tree_scan_roots.proofs.table.RootTable.above.Goals as goal

pub returns-then-is_some : goal.returns-then-is_some
returns-then-is_some c =
    let roots = c.args.self.now in
    let path = c.args.path.now in
    let numbers = c.self.inside.numbers in
    let end = c.places.end - 1 in
    let are = subst (λ rs. IsNumbering (root_paths rs) numbers) c.self.view_is c.self.invariant in
    let le : c.places.end ≤ length path = c.places.invariant.within in
    let within : end < length path = omega arith in
    let last : c.places.end ≡ end + 1 = omega arith in
    let shorter = subst (λ e. AllShorter roots path e) last c.places.invariant.shorter in
    some_case
    _
    (λ n. IsAbove (take end path) path × (number_of numbers (take end path) ≡ Some n))
    (IsLongestAbove roots path)
    c.number_up_to-found.result
    (sym c.is_some.ensures ∙ c.if-is_some.true)
    c.number_up_to-found.ensures.found
    (λ n h. longest_here roots numbers are path end n within shorter h.0 h.1)

pub places-preserved : goal.places-preserved
places-preserved c =
    let roots = c.args.self.now in
    let path = c.args.path.now in
    let numbers = c.self.inside.numbers in
    let end = c.places.end - 1 in
    let are = subst (λ rs. IsNumbering (root_paths rs) numbers) c.self.view_is c.self.invariant in
    let le : c.places.end ≤ length path = c.places.invariant.within in
    let last : c.places.end ≡ end + 1 = omega arith in
    let shorter = subst (λ e. AllShorter roots path e) last c.places.invariant.shorter in
    record {
      within = omega arith;
      shorter = shorter_still roots numbers are path end shorter
          (none_case c.number_up_to-found.result (sym c.is_some.ensures ∙ c.if-is_some.false)
          c.number_up_to-found.ensures.none);
    }
