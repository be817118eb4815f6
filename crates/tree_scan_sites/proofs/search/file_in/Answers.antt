use Rattle.std.proofs.Common.{◌≡◌, ◌<◌, length, arith, ap, sym, ◌∙◌}
use Rattle.std.specs.Ordering.{is_eq}
use Rattle.tree_scan_sites.specs.Paths.{path_order}
use Rattle.tree_scan_sites.proofs.FileLaws.{first_past, first_found, first_other, is_first}
use Rattle.tree_scan_sites.proofs.search.file_in.Goals as goal

pub returns-then-place-spelled : goal.returns-then-place-spelled
returns-then-place-spelled c =
    sym (first_past c.args.path.now c.args.spelled.now c.place_of-place.result c.place_of-place.ensures.parted.0
    (omega arith))

pub returns-then-is_eq : goal.returns-then-is_eq
returns-then-is_eq c =
    let entry = c.index-spelled-place.result in
    let same : is_eq (path_order entry.constant c.args.path.now) ≡ c.is_eq.result =
    sym (c.is_eq.ensures ∙ (ap is_eq c.compare_paths.ensures
    ∙ ap (λ p. is_eq (path_order p c.args.path.now)) c.as_slice.ensures)) in
    let within : c.place_of-place.result < length c.args.spelled.now = omega (arith, c.place_of-place.ensures.bound) in
    sym (first_found c.args.path.now c.args.spelled.now c.place_of-place.result entry within c.index-spelled-place.is
    c.place_of-place.ensures.parted.0 (is_first c.args.path.now entry (same ∙ c.if-is_eq.true)))

pub returns-else-is_eq : goal.returns-else-is_eq
returns-else-is_eq c =
    let entry = c.index-spelled-place.result in
    let same : is_eq (path_order entry.constant c.args.path.now) ≡ c.is_eq.result =
    sym (c.is_eq.ensures ∙ (ap is_eq c.compare_paths.ensures
    ∙ ap (λ p. is_eq (path_order p c.args.path.now)) c.as_slice.ensures)) in
    let within : c.place_of-place.result < length c.args.spelled.now = omega (arith, c.place_of-place.ensures.bound) in
    sym (first_other c.args.path.now c.args.spelled.now c.place_of-place.result entry within c.index-spelled-place.is
    c.requires c.place_of-place.ensures.parted.0 c.place_of-place.ensures.parted.1 (same ∙ c.if-is_eq.false))
