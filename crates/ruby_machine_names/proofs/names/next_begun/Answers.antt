use Rattle.std.proofs.Common.{◌≡◌, ◌≤◌, ◌++◌, ◌∷◌, [], List, Option, Some, None, true, false, refl, ap, sym, subst}
use Rattle.std.proofs.Common.{◌∙◌, arith, drop, suc, add-one, length}
use Rattle.std.specs.Prelude.{Ok, Err, if◌then◌else◌}
use Rattle.ruby_types.specs.declared.value.Value.{Value}
use Rattle.program_places.specs.Paths.{Path}
use Rattle.ruby_runs.specs.Doing.{Doing, pure}
use Rattle.ruby_runs.specs.Names as spec
use Rattle.ruby_machine_names.specs.Profile.{profile}
use Rattle.ruby_machine_names.specs.Names as names
use Rattle.ruby_machine_names.specs.Steps.{Ends, EndsAt, NameGoes, PathGoes, Settles, WholeGoes, here_of}
use Rattle.ruby_machine_names.specs.declared.search.Outer.TheVariants as outer
use Rattle.ruby_machine_names.specs.declared.names.NameStep.TheVariants as name_step
use Rattle.ruby_machine_names.proofs.Going.{EndsAt_then}
use Rattle.ruby_machine_names.proofs.names.next_begun.Goals as goal

pub returns-in-Ok : goal.returns-in-Ok
returns-in-Ok g c =
    let i = g.P.Lookups.index c.args.program.now in
    let h = here_of c.args.here.now in
    let d : Doing Path = spec.qualified_in i profile h c.args.in_code (names.found_of c.args.found.now)
    c.args.name.now in
    c.refer_path.ensures d c.args.turns.now
    (subst (λ p. PathGoes (λ v. names.after_ancestors i h (outer.Within p) c.args.name.now (spec.members_of v)) d
    c.args.turns.now (Ok c.in-Ok.step) c.qualified_in.new.turns) (sym c.in_ok-copy.ensures) c.in-Ok.ensures)

pub returns-in-Err : goal.returns-in-Err
returns-in-Err g c =
    let i = g.P.Lookups.index c.args.program.now in
    let h = here_of c.args.here.now in
    EndsAt_then (spec.qualified_in i profile h c.args.in_code (names.found_of c.args.found.now) c.args.name.now)
    (spec.refer i profile h) c.args.turns.now c.in-Err.failure c.in-Err.ensures
