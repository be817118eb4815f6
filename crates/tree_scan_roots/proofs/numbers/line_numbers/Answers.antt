use Rattle.std.proofs.Common.{◌≡◌, length, get_or, take, refl, true, false, sym, ◌∙◌, subst, arith}
use Rattle.std.specs.Prelude.{is_some}
use Rattle.std.proofs.lemmas.List.{map_more, length-map, length-take-le}
use Rattle.tree_scan_roots.specs.Keys.{number_of, IsNumbering}
use Rattle.tree_scan_roots.specs.Roots.{named, IsTwoRoots}
use Rattle.tree_scan_roots.proofs.KeyLaws.{has_number, none_is, distinct, numbered_more}
use Rattle.tree_scan_roots.proofs.RootLaws.{two_roots}
use Rattle.tree_scan_roots.proofs.numbers.line_numbers.Goals as goal

pub returns-then-is_some-clause-fault : goal.returns-then-is_some-clause-fault
returns-then-is_some-clause-fault c =
    let lines = c.args.lines.now in
    let before = named (take c.lines.place lines) in
    let path = (get_or lines c.lines.place c.index-lines-place.result).path in
    let found : is_some (number_of c.lines.numbers path) ≡ true = cc in
    let has = has_number before c.lines.numbers c.lines.invariant path found in
    subst
    (λ p. IsTwoRoots lines p)
    (sym c.in_ok-copy.ensures)
    (two_roots lines c.lines.place c.index-lines-place.result path c.lines-test.true refl
    (distinct before c.lines.numbers c.lines.invariant) has)

pub lines-preserved : goal.lines-preserved
lines-preserved c =
    let lines = c.args.lines.now in
    let place = c.lines.place in
    let before = named (take place lines) in
    let path = (get_or lines place c.index-lines-place.result).path in
    let unseen : is_some (number_of c.lines.numbers path) ≡ false = cc in
    let count : c.in-Ok.number ≡ length before = c.in-Ok.ensures.1
    ∙ sym (length-map (take place lines) (λ line. line.path) ∙ length-take-le place lines (omega arith)) in
    let updates = rw c.as_bytes-in-lines.ensures at c.in_ok-give_number.ensures in
    subst
    (λ paths. IsNumbering paths c.give_number.new.numbers)
    (sym (map_more (λ line. line.path) lines place c.index-lines-place.result c.lines-test.true))
    (numbered_more before c.lines.numbers c.lines.invariant path c.give_number.new.numbers c.in-Ok.number count
    (none_is (number_of c.lines.numbers path) unseen) updates)
