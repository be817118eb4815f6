use Rattle.std.proofs.Common.{◌≡◌, ◌≤◌, ◌++◌, ◌∷◌, [], List, Option, Some, None, true, false, refl, ap, sym, subst}
use Rattle.std.proofs.Common.{◌∙◌, arith, drop, suc, add-one, length}
use Rattle.std.specs.Prelude.{Ok, Err, if◌then◌else◌}
use Rattle.ruby_types.specs.declared.value.Value.{Value}
use Rattle.program_places.specs.Paths.{Path}
use Rattle.ruby_runs.specs.Doing.{Doing, pure}
use Rattle.ruby_runs.specs.Names as spec
use Rattle.ruby_machine_names.specs.Profile.{profile}
use Rattle.ruby_machine_names.specs.Names as names
use Rattle.ruby_machine_names.specs.Steps.{Ends, EndsAt, NameGoes, PathGoes, Settles, WholeGoes, here_of}
use Rattle.ruby_machine_names.specs.declared.search.Outer.TheVariants as outer
use Rattle.ruby_machine_names.specs.declared.names.NameStep.TheVariants as name_step
use Rattle.ruby_machine_names.proofs.names.first_name.Goals as goal

pub returns-then-top : goal.returns-then-top
returns-then-top g c =
    let i = g.P.Lookups.index c.args.program.now in
    let h = here_of c.args.here.now in
    let later : Value → Doing Path = λ v. names.after_ancestors i h outer.Scopes c.args.name.now (spec.members_of v) in
    subst (λ t. PathGoes later (spec.first_name i profile h c.args.in_code t c.args.name.now) c.args.turns.now
    c.gives.result
    c.args.turns.now) (sym c.if-top.true)
    (c.gives.ensures later (spec.at_top i profile h (c.args.name.now ∷ []) c.args.name.now) c.args.turns.now
    c.at_top.ensures)
