use Rattle.std.proofs.Common.{◌∷◌, [], ◌∙◌, ap}
use Rattle.ruby_types.specs.declared.value.Value.TheVariants.{Array}
use Rattle.ruby_runs.specs.Runs.{from_last}
use Rattle.ruby_machine_ancestors.proofs.joining.join.Goals as goal

pub returns : goal.returns
returns c =
    let path = c.args.path.now in
    let first = c.in_ok-add.ensures [] (c.new.ensures.empty, c.new-2.ensures.items) in
    let includes = c.in_ok-add_from_last.ensures (path ∷ []) first in
    let all = c.in_ok-add_all.ensures (from_last (path ∷ []) c.args.includes.now) includes in
    ap Array (c.in_ok-from_vec.ensures ∙ (rw c.as_slice.ensures at all).1)
