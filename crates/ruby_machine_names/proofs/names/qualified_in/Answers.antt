use Rattle.std.proofs.Common.{◌≡◌, ◌≤◌, ◌++◌, ◌∷◌, [], List, Option, Some, None, Bool, true, false, refl, ap, sym}
use Rattle.std.proofs.Common.{subst, ◌∙◌, arith, drop, suc, add-one, length}
use Rattle.std.specs.Prelude.{Ok, Err, if◌then◌else◌}
use Rattle.ruby_types.specs.declared.value.Value.{Value}
use Rattle.program_places.specs.Paths.{Path}
use Rattle.ruby_runs.specs.Doing.{Doing, pure}
use Rattle.ruby_runs.specs.Names as spec
use Rattle.ruby_machine_names.specs.Profile.{profile}
use Rattle.ruby_machine_names.specs.Names as names
use Rattle.ruby_machine_names.specs.Steps.{Ends, EndsAt, NameGoes, PathGoes, Settles, WholeGoes, here_of}
use Rattle.ruby_machine_names.specs.declared.search.Outer.TheVariants as outer
use Rattle.ruby_machine_names.specs.declared.names.NameStep.TheVariants as name_step
use Rattle.ruby_machine_names.proofs.Going.{ends_at}
use Rattle.ruby_machine_names.proofs.names.qualified_in.Goals as goal

pub returns-then-found : goal.returns-then-found
returns-then-found g c =
    let i = g.P.Lookups.index c.args.program.now in
    let h = here_of c.args.here.now in
    let later : Value → Doing Path = λ v. names.after_ancestors i h (outer.Within c.args.found.now.path)
    c.args.name.now (spec.members_of v) in
    let d : Bool → Doing Path = λ b. if b then names.not_a_module {A = Path} h c.args.found.now.value
    else spec.qualified i profile h c.args.in_code c.args.found.now.path c.args.name.now in
    subst (λ b. PathGoes later (d b) c.args.turns.now (Err c.not_a_module.result) c.args.turns.now) (sym
    c.if-found.true)
    (ends_at (names.not_a_module {A = Path} h c.args.found.now.value) c.args.turns.now c.not_a_module.result
    c.not_a_module.ensures)

pub returns-else-found : goal.returns-else-found
returns-else-found g c =
    let i = g.P.Lookups.index c.args.program.now in
    let h = here_of c.args.here.now in
    let later : Value → Doing Path = λ v. names.after_ancestors i h (outer.Within c.args.found.now.path)
    c.args.name.now (spec.members_of v) in
    let d : Bool → Doing Path = λ b. if b then names.not_a_module {A = Path} h c.args.found.now.value
    else spec.qualified i profile h c.args.in_code c.args.found.now.path c.args.name.now in
    subst (λ b. PathGoes later (d b) c.args.turns.now c.qualified.result c.qualified.new.turns) (sym c.if-found.false)
    c.qualified.ensures
