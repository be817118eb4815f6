use Rattle.std.proofs.Common.{◌≡◌, ◌≤◌, ◌++◌, ◌∷◌, [], List, Option, Some, None, true, false, refl, ap, sym, subst}
use Rattle.std.proofs.Common.{◌∙◌, arith}
use Rattle.std.specs.Prelude.{Ok, Err, if◌then◌else◌}
use Rattle.program_places.specs.Paths.{Path}
use Rattle.ruby_runs.specs.Names as spec
use Rattle.ruby_machine_names.specs.Profile.{profile}
use Rattle.ruby_machine_names.specs.Names as names
use Rattle.ruby_machine_names.specs.Steps.{Ends, EndsAt, NameGoes, PathGoes, Settles, WholeGoes, here_of}
use Rattle.ruby_machine_names.specs.declared.search.Outer.TheVariants as outer
use Rattle.ruby_machine_names.proofs.Going.{whole_begins, whole_fails}
use Rattle.ruby_machine_names.proofs.resolving.resolve.Goals as goal

pub returns-in-Ok : goal.returns-in-Ok
returns-in-Ok g c =
    let i = g.P.Lookups.index c.args.program.now in
    let h = here_of c.args.here.now in
    whole_begins i h c.args.in_code c.args.constant.now.top c.args.constant.now.path c.args.turns.now
    c.segment_turn.new.turns c.resolve_begun.result c.resolve_begun.new.turns (c.in-Ok.ensures i)
    c.resolve_begun.ensures

pub returns-in-Err : goal.returns-in-Err
returns-in-Err g c =
    let i = g.P.Lookups.index c.args.program.now in
    let h = here_of c.args.here.now in
    whole_fails i h c.args.in_code c.args.constant.now.top c.args.constant.now.path c.args.turns.now c.in-Err.failure
    (c.in-Err.ensures i)
