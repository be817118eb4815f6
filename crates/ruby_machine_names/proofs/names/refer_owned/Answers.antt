use Rattle.std.proofs.Common.{◌≡◌, ◌≤◌, ◌++◌, ◌∷◌, [], List, Option, Some, None, true, false, refl, ap, sym, subst}
use Rattle.std.proofs.Common.{◌∙◌, arith}
use Rattle.std.specs.Prelude.{Ok, Err, if◌then◌else◌}
use Rattle.program_places.specs.Paths.{Path}
use Rattle.ruby_runs.specs.Names as spec
use Rattle.ruby_machine_names.specs.Profile.{profile}
use Rattle.ruby_machine_names.specs.Names as names
use Rattle.ruby_machine_names.specs.Steps.{Ends, EndsAt, NameGoes, PathGoes, Settles, WholeGoes, here_of}
use Rattle.ruby_machine_names.specs.declared.search.Outer.TheVariants as outer
use Rattle.ruby_machine_names.proofs.Going.{near_goes, far_goes}
use Rattle.ruby_machine_names.proofs.names.refer_owned.Goals as goal

pub returns-then-is_near : goal.returns-then-is_near
returns-then-is_near g c =
    let i = g.P.Lookups.index c.args.program.now in
    let h = here_of c.args.here.now in
    near_goes i h c.args.file.now c.args.path c.args.assigned c.args.turns.now c.ask_const.result c.ask_const.new.turns
    (sym c.is_near.ensures ∙ c.if-is_near.true) (c.ask_const.ensures i)

pub returns-else-is_near : goal.returns-else-is_near
returns-else-is_near g c =
    let i = g.P.Lookups.index c.args.program.now in
    let h = here_of c.args.here.now in
    far_goes i h c.args.file.now c.args.path c.args.assigned c.args.turns.now c.ask_file.result c.ask_file.new.turns
    (sym c.is_near.ensures ∙ c.if-is_near.false) (c.ask_file.ensures i)
