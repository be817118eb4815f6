use Rattle.std.proofs.Common.{◌≡◌, ◌≤◌, ◌++◌, ◌∷◌, [], List, Option, Some, None, true, false, refl, ap, sym, subst}
use Rattle.std.proofs.Common.{◌∙◌, arith, drop, suc, add-one, length}
use Rattle.std.specs.Prelude.{Ok, Err, if◌then◌else◌}
use Rattle.ruby_types.specs.declared.value.Value.{Value}
use Rattle.program_places.specs.Paths.{Path}
use Rattle.ruby_runs.specs.Doing.{Doing, pure}
use Rattle.ruby_runs.specs.Names as spec
use Rattle.ruby_machine_names.specs.Profile.{profile}
use Rattle.ruby_machine_names.specs.Names as names
use Rattle.ruby_machine_names.specs.Steps.{Ends, EndsAt, NameGoes, PathGoes, Settles, WholeGoes, here_of}
use Rattle.ruby_machine_names.specs.declared.search.Outer.TheVariants as outer
use Rattle.ruby_machine_names.specs.declared.names.NameStep.TheVariants as name_step
use Rattle.ruby_machine_names.proofs.Going.{rest_gives, rest_asks, rest_ends, rest_fails}
use Rattle.ruby_machine_names.proofs.resolving.rest_of_names.Goals as goal

pub names-preserved : goal.names-preserved
names-preserved g c =
    let i = g.P.Lookups.index c.args.program.now in
    let h = here_of c.args.here.now in
    let r = rest_gives i h c.args.in_code (names.found_of c.args.found) (names.found_of c.names.found) (drop
    c.args.place c.args.all.now)
    c.args.all.now c.names.at c.at.result.now c.args.turns.now c.names.turns c.next_name.new.turns c.in-Gives.next
    c.names.invariant.same c.names.invariant.falls c.at.ensures (omega (arith, c.names-test.true))
    (rw c.in-Gives.is at c.in-Ok.ensures) in
    record { same = r.1; falls = r.0 }

pub returns-in-Asks : goal.returns-in-Asks
returns-in-Asks g c =
    let i = g.P.Lookups.index c.args.program.now in
    let h = here_of c.args.here.now in
    rest_asks i h c.args.in_code (names.found_of c.args.found) (names.found_of c.names.found) (drop c.args.place
    c.args.all.now)
    c.args.all.now c.names.at c.at.result.now c.args.turns.now c.names.turns c.next_name.new.turns c.in-Asks.task
    c.in-Asks.awaited
    c.waits.result c.names.invariant.same c.names.invariant.falls c.at.ensures (omega (arith, c.names-test.true))
    (rw c.in-Asks.is at c.in-Ok.ensures) c.waits.ensures

pub returns : goal.returns
returns g c =
    let i = g.P.Lookups.index c.args.program.now in
    let h = here_of c.args.here.now in
    rest_ends i h c.args.in_code (names.found_of c.args.found) c.names.found (drop c.args.place c.args.all.now)
    c.args.all.now c.names.at c.args.turns.now c.names.turns c.names.invariant.same c.names.invariant.falls
    (omega (arith, c.names-test.false, c.len-at-end.ensures))

pub returns-in-Err : goal.returns-in-Err
returns-in-Err g c =
    let i = g.P.Lookups.index c.args.program.now in
    let h = here_of c.args.here.now in
    rest_fails i h c.args.in_code (names.found_of c.args.found) (names.found_of c.names.found) (drop c.args.place
    c.args.all.now)
    c.args.all.now c.names.at c.at.result.now c.args.turns.now c.names.turns c.in-Err.failure
    c.names.invariant.same c.at.ensures (omega (arith, c.names-test.true)) c.in-Err.ensures
