use Rattle.std.proofs.Common.{◌∙◌, sym, arith, rules, tests}
use Rattle.ruby_types.specs.Same.{same_both}
use Rattle.ruby_types.proofs.SameLaws.{same-Int, same-Str, same-Sym, same-Array, same-Hash, same-Module, same-Object}
use Rattle.ruby_types.proofs.SameLaws.{counts_differ, counts_go_on, same_list_counts, counts_are_unequal}
use Rattle.ruby_types.proofs.PairingLaws.{same_sums_decide}
use Rattle.ruby_types.proofs.compare.+equal.Goals as goal

pub equal-returns-in-Int-b : goal.equal-returns-in-Int-b
equal-returns-in-Int-b t c = c.equal_ints.ensures ∙ sym (same-Int _ _ _ _ c.in-Int.is c.in-Int-b.is)

pub equal-returns-in-Str-b : goal.equal-returns-in-Str-b
equal-returns-in-Str-b t c = let e = same-Str _ _ _ _ c.in-Str.is c.in-Str-b.is in cc

pub equal-returns-in-Sym-b : goal.equal-returns-in-Sym-b
equal-returns-in-Sym-b t c = let e = same-Sym _ _ _ _ c.in-Sym.is c.in-Sym-b.is in cc

pub equal-returns-in-Array-b : goal.equal-returns-in-Array-b
equal-returns-in-Array-b t c = c.equal_items.ensures ∙ sym (same-Array _ _ _ _ c.in-Array.is c.in-Array-b.is)

pub equal-returns-in-Hash-b : goal.equal-returns-in-Hash-b
equal-returns-in-Hash-b t c = c.equal_hashes.ensures ∙ sym (same-Hash _ _ _ _ c.in-Hash.is c.in-Hash-b.is)

pub equal-returns-in-Module-b : goal.equal-returns-in-Module-b
equal-returns-in-Module-b t c = c.equal_paths.ensures ∙ sym (same-Module _ _ _ _ c.in-Module.is c.in-Module-b.is)

pub equal-returns-then-equal_paths : goal.equal-returns-then-equal_paths
equal-returns-then-equal_paths t c =
    let e = same-Object _ _ _ _ _ _ c.in-Object.is c.in-Object-b.is in grind arith

pub equal-returns-else-equal_paths : goal.equal-returns-else-equal_paths
equal-returns-else-equal_paths t c =
    let e = same-Object _ _ _ _ _ _ c.in-Object.is c.in-Object-b.is in grind arith

pub equal_counts-returns-then-count : goal.equal_counts-returns-then-count
equal_counts-returns-then-count t c =
    counts_differ same_both _ _ _ _ _ c.p-item.result _ _ _ c.as_slice-p-items.ensures c.counts-test.true c.p-item.is
    c.counts.invariant c.count.ensures c.count-in-counts.ensures c.if-count.true

pub equal_counts-counts-preserved : goal.equal_counts-counts-preserved
equal_counts-counts-preserved t c =
    counts_go_on same_both _ _ _ _ _ c.p-item.result _ _ _ c.as_slice-p-items.ensures c.counts-test.true c.p-item.is
    c.counts.invariant c.count.ensures c.count-in-counts.ensures c.if-count.false

pub equal_large-returns-then-identical_pairs : goal.equal_large-returns-then-identical_pairs
equal_large-returns-then-identical_pairs t c =
    same_list_counts c.args.a.now c.args.b.now (c.identical_pairs.ensures (search (rules, tests)))

pub equal_large-returns-in-None : goal.equal_large-returns-in-None
equal_large-returns-in-None t c =
    same_sums_decide c.args.a.now c.args.b.now _ _ c.as_slice.ensures c.as_slice-2.ensures c.in-None.ensures

pub equal_large-returns-else-count : goal.equal_large-returns-else-count
equal_large-returns-else-count t c =
    counts_are_unequal c.args.a.now _ c.args.b.now c.in-Some.place c.index-as_slice-place.result _ _
    c.as_slice-in-Some.ensures (rw (c.as_slice-in-Some.ensures ∙ sym c.as_slice.ensures) c.in-Some.ensures)
    c.index-as_slice-place.is c.count.ensures c.count-in-Some.ensures c.if-count.false
