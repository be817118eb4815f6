use Rattle.std.proofs.Common.{◌≡◌, ◌≤◌, ◌++◌, ◌∷◌, [], List, Option, Some, None, true, false, refl, ap, sym, subst}
use Rattle.std.proofs.Common.{◌∙◌, arith, drop, suc, add-one, length}
use Rattle.std.specs.Prelude.{Ok, Err, if◌then◌else◌}
use Rattle.ruby_types.specs.declared.value.Value.{Value}
use Rattle.program_places.specs.Paths.{Path}
use Rattle.ruby_runs.specs.Doing.{Doing, pure}
use Rattle.ruby_runs.specs.Names as spec
use Rattle.ruby_machine_names.specs.Profile.{profile}
use Rattle.ruby_machine_names.specs.Names as names
use Rattle.ruby_machine_names.specs.Steps.{Ends, EndsAt, NameGoes, PathGoes, Settles, WholeGoes, here_of}
use Rattle.ruby_machine_names.specs.declared.search.Outer.TheVariants as outer
use Rattle.ruby_machine_names.specs.declared.names.NameStep.TheVariants as name_step
use Rattle.ruby_machine_names.proofs.names.qualified_inherited.Goals as goal

pub returns-then-in_code : goal.returns-then-in_code
returns-then-in_code g c =
    let i = g.P.Lookups.index c.args.program.now in
    let h = here_of c.args.here.now in
    let later : Value → Doing Path = λ v. names.after_ancestors i h (outer.Within c.args.path.now) c.args.name.now
    (spec.members_of v) in
    subst (λ b. PathGoes later (names.qualified_inherits i h b c.args.path.now c.args.name.now) c.args.turns.now
    c.inherit.result c.inherit.new.turns) (sym c.if-in_code.true)
    (subst (λ p. PathGoes (λ v. names.after_ancestors i h (outer.Within p) c.args.name.now (spec.members_of v))
    (names.inherits i h c.args.path.now (outer.Within p) c.args.name.now) c.args.turns.now c.inherit.result
    c.inherit.new.turns) c.in_ok-copy.ensures c.inherit.ensures)

pub returns : goal.returns
returns g c =
    let i = g.P.Lookups.index c.args.program.now in
    let h = here_of c.args.here.now in
    let later : Value → Doing Path = λ v. names.after_ancestors i h (outer.Within c.args.path.now) c.args.name.now
    (spec.members_of v) in
    subst (λ b. PathGoes later (names.qualified_inherits i h b c.args.path.now c.args.name.now) c.args.turns.now
    c.gives.result c.args.turns.now) (sym c.if-in_code.false)
    (c.gives.ensures later (names.fallback i h (outer.Within c.args.path.now) c.args.name.now) c.args.turns.now
    (subst (λ p. Settles (names.fallback i h (outer.Within p) c.args.name.now) c.fallback.result) c.in_ok-copy.ensures
    c.fallback.ensures))
