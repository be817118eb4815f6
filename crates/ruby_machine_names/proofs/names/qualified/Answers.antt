use Rattle.std.proofs.Common.{◌≡◌, ◌≤◌, ◌++◌, ◌∷◌, [], List, Option, Some, None, true, false, refl, ap, sym, subst}
use Rattle.std.proofs.Common.{◌∙◌, arith, drop, suc, add-one, length}
use Rattle.std.specs.Prelude.{Ok, Err, if◌then◌else◌}
use Rattle.ruby_types.specs.declared.value.Value.{Value}
use Rattle.program_places.specs.Paths.{Path}
use Rattle.ruby_runs.specs.Doing.{Doing, pure}
use Rattle.ruby_runs.specs.Names as spec
use Rattle.ruby_machine_names.specs.Profile.{profile}
use Rattle.ruby_machine_names.specs.Names as names
use Rattle.ruby_machine_names.specs.Steps.{Ends, EndsAt, NameGoes, PathGoes, Settles, WholeGoes, here_of}
use Rattle.ruby_machine_names.specs.declared.search.Outer.TheVariants as outer
use Rattle.ruby_machine_names.specs.declared.names.NameStep.TheVariants as name_step
use Rattle.ruby_machine_names.proofs.Going.{found_goes, other_goes, failure_goes}
use Rattle.ruby_machine_names.proofs.names.qualified.Goals as goal

pub returns-in-Ok-Some : goal.returns-in-Ok-Some
returns-in-Ok-Some g c =
    let i = g.P.Lookups.index c.args.program.now in
    let h = here_of c.args.here.now in
    let later : Value → Doing Path = λ v. names.after_ancestors i h (outer.Within c.args.path.now) c.args.name.now
    (spec.members_of v) in
    found_goes i (spec.search i profile c.args.name.now (c.args.path.now ∷ [])) (names.qualified_inherits i h
    c.args.in_code c.args.path.now c.args.name.now)
    later c.args.turns.now c.in-Ok-Some.found (subst (λ r. Settles (spec.search i profile c.args.name.now
    (c.args.path.now ∷ [])) r) (c.in-Ok-Some.is ∙ ap Ok c.in-Ok-Some.field-0-is) c.own.ensures)

pub returns-in-Ok-None : goal.returns-in-Ok-None
returns-in-Ok-None g c =
    let i = g.P.Lookups.index c.args.program.now in
    let h = here_of c.args.here.now in
    let later : Value → Doing Path = λ v. names.after_ancestors i h (outer.Within c.args.path.now) c.args.name.now
    (spec.members_of v) in
    other_goes i (spec.search i profile c.args.name.now (c.args.path.now ∷ [])) (names.qualified_inherits i h
    c.args.in_code c.args.path.now c.args.name.now)
    later c.args.turns.now c.qualified_inherited.result c.qualified_inherited.new.turns
    (subst (λ r. Settles (spec.search i profile c.args.name.now (c.args.path.now ∷ [])) r) (c.in-Ok-None.is ∙ ap Ok
    c.in-Ok-None.field-0-is) c.own.ensures)
    c.qualified_inherited.ensures

pub returns-in-Err : goal.returns-in-Err
returns-in-Err g c =
    let i = g.P.Lookups.index c.args.program.now in
    let h = here_of c.args.here.now in
    let later : Value → Doing Path = λ v. names.after_ancestors i h (outer.Within c.args.path.now) c.args.name.now
    (spec.members_of v) in
    failure_goes i (spec.search i profile c.args.name.now (c.args.path.now ∷ [])) (names.qualified_inherits i h
    c.args.in_code c.args.path.now c.args.name.now)
    later c.args.turns.now c.in-Err.failure c.in-Err.ensures
