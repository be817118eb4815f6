use Rattle.std.proofs.Common.{◌≡◌, ◌≤◌, ◌++◌, ◌∷◌, [], List, Option, Some, None, true, false, refl, ap, sym, subst}
use Rattle.std.proofs.Common.{◌∙◌, arith}
use Rattle.std.specs.Prelude.{Ok, Err, if◌then◌else◌}
use Rattle.program_places.specs.Paths.{Path}
use Rattle.ruby_runs.specs.Names as spec
use Rattle.ruby_machine_names.specs.Profile.{profile}
use Rattle.ruby_machine_names.specs.Names as names
use Rattle.ruby_machine_names.specs.Steps.{Ends, EndsAt, NameGoes, PathGoes, Settles, WholeGoes, here_of}
use Rattle.ruby_machine_names.specs.declared.search.Outer.TheVariants as outer
use Rattle.ruby_machine_names.proofs.Going.{refer_goes}
use Rattle.ruby_machine_names.proofs.names.refer.Goals as goal

pub returns-in-Faulty : goal.returns-in-Faulty
returns-in-Faulty g c =
    let i = g.P.Lookups.index c.args.program.now in
    let h = here_of c.args.here.now in
    refer_goes i h c.args.path _ c.args.turns.now c.refer_owned.result c.refer_owned.new.turns
    c.in-Faulty.ensures c.refer_owned.ensures

pub returns-in-Assigned : goal.returns-in-Assigned
returns-in-Assigned g c =
    let i = g.P.Lookups.index c.args.program.now in
    let h = here_of c.args.here.now in
    refer_goes i h c.args.path _ c.args.turns.now c.refer_owned-in-Assigned.result c.refer_owned-in-Assigned.new.turns
    c.in-Assigned.ensures c.refer_owned-in-Assigned.ensures

pub returns-in-Opened : goal.returns-in-Opened
returns-in-Opened g c =
    let i = g.P.Lookups.index c.args.program.now in
    let h = here_of c.args.here.now in
    refer_goes i h c.args.path _ c.args.turns.now c.refer_owned-in-Opened.result c.refer_owned-in-Opened.new.turns
    c.in-Opened.ensures.0 c.refer_owned-in-Opened.ensures
