use Rattle.std.proofs.Common.{◌≡◌, length, sym, ◌∙◌, ap, subst}
use Rattle.std.proofs.lemmas.List.{map_push, length-map}
use Rattle.tree_scan_roots.specs.Keys.{IsNumbering}
use Rattle.tree_scan_roots.specs.Roots.{root_paths}
use Rattle.tree_scan_roots.proofs.KeyLaws.{lacks_number, numbered_more}
use Rattle.tree_scan_roots.proofs.building.add_root.Goals as goal

pub returns-clause-numbered : goal.returns-clause-numbered
returns-clause-numbered c =
    let old = c.args.building.now in
    let root = c.args.root in
    let count : c.in-Ok.number ≡ length (root_paths old.roots) = c.in-Ok.ensures.1 ∙ c.len.ensures
    ∙ sym (length-map old.roots (λ r. r.path)) in
    let none = lacks_number (root_paths old.roots) old.numbers c.requires.numbered root.path c.requires.other in
    let updates = rw c.as_bytes.ensures at c.in_ok-give_number.ensures in
    subst
    (λ paths. IsNumbering paths c.give_number.new.numbers)
    (sym (ap root_paths c.in_ok-push.ensures.ok ∙ map_push (λ r. r.path) old.roots root))
    (numbered_more (root_paths old.roots) old.numbers c.requires.numbered root.path c.give_number.new.numbers
    c.in-Ok.number count none updates)
