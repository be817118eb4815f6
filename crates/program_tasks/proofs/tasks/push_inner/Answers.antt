use Rattle.std.proofs.Common.{◌≡◌, ◌++◌, List, refl, subst}
use Rattle.std.specs.Prelude.{OnOk}
use Rattle.std.proofs.lemmas.List.{length-map}
use Rattle.ruby_types.specs.declared.request.Task.{Task}
use Rattle.program_entries.specs.Seen.{seen_all}
use Rattle.program_tasks.specs.Placed.{placed_tasks, inner_of}
use Rattle.program_tasks.proofs.OnceLaws.{placed_once}
use Rattle.program_tasks.proofs.tasks.push_inner.Goals as goal

pub push_placed-requires : goal.push_placed-requires
push_placed-requires c =
    rw (
      c.as_slice.ensures.value,
      c.in_ok-kinds.ensures,
      c.constants.ensures,
      c.in_ok-table.ensures,
      c.in_ok-constants.ensures,
      length-map,
      length-map,
    ) refl

pub returns : goal.returns
returns c =
    let inner : placed_tasks c.args.constant.now c.in_ok-table.table 0 c.constants.result.now c.as_slice.result.now
    ≡ inner_of c.args.constant.now (seen_all c.args.entries.now) =
    rw (
      c.constants.ensures,
      c.as_slice.ensures.value,
      c.in_ok-table.ensures,
      c.in_ok-constants.ensures,
      c.in_ok-kinds.ensures,
    ) (placed_once c.args.constant.now (seen_all c.args.entries.now)) in
    subst (λ (ts : List Task). OnOk c.push_placed.result
    (c.push_placed.new.tasks.items ≡ c.args.tasks.now.items ++ ts)) inner c.push_placed.ensures
