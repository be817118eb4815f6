use Rattle.std.proofs.Common.{◌≡◌, not, sym, ◌∙◌, ap, subst}
use Rattle.std.specs.Prelude.{is_some}
use Rattle.tree_scan_roots.specs.Keys.{number_of, IsNumbering}
use Rattle.tree_scan_roots.specs.Roots.{root_paths}
use Rattle.tree_scan_roots.proofs.KeyLaws.{no_number, has_number, none_is}
use Rattle.tree_scan_roots.proofs.RootLaws.{added_next, passed_next, root_is}
use Rattle.tree_scan_roots.proofs.building.add_line_roots.Goals as goal
use Rattle.tree_scan_roots.proofs.building.add_line_roots.Goals.{then-is_none+in_ok-path+in_ok-namespace+in_ok-add_root}
use Rattle.tree_scan_roots.proofs.building.add_line_roots.Goals.{else-is_none}

pub lines-preserved : goal.lines-preserved
lines-preserved c =
    let line = c.line-item.result in
    let old = c.lines.building in
    let number : is_some (number_of old.numbers line.path) ≡ not c.is_none.result =
    ap (λ path. is_some (number_of old.numbers path)) (sym c.as_bytes.ensures) ∙ ap is_some (sym c.number_of.ensures)
    ∙ c.is_none.ensures in
    elim c.if-is_none.branch [
      | then-is_none+in_ok-path+in_ok-namespace+in_ok-add_root w ↦
          let none = none_is (number_of old.numbers line.path) (number ∙ ap not w.if-is_none.true) in
          let same = root_is w.in_ok-path.path w.in_ok-namespace.namespace line w.in_ok-path.ensures
          (w.in_ok-namespace.ensures ∙ w.as_slice.ensures) in
          let next = w.add_root.new.building in
          record {
            numbered = subst (λ b. IsNumbering (root_paths b.roots) b.numbers)
                (sym w.building-is) w.in_ok-add_root.ensures.numbered;
            added = ap (λ b. b.roots) w.building-is
                ∙ added_next c.args.building.now.roots c.args.lines.now c.lines.line-index line c.lines-test.true
                c.line-item.is old.roots c.lines.invariant.added
                next.roots _ (no_number (root_paths old.roots) old.numbers c.lines.invariant.numbered line.path none)
                w.in_ok-add_root.ensures.added same;
          }
      | else-is_none w ↦
          let has = has_number (root_paths old.roots) old.numbers c.lines.invariant.numbered line.path
          (number ∙ ap not w.if-is_none.false) in
          record {
            numbered = subst (λ b. IsNumbering (root_paths b.roots) b.numbers)
                (sym w.building-is) c.lines.invariant.numbered;
            added = ap (λ b. b.roots) w.building-is
                ∙ passed_next c.args.building.now.roots c.args.lines.now c.lines.line-index line c.lines-test.true
                c.line-item.is old.roots c.lines.invariant.added c.requires.once has;
          }
    ]
