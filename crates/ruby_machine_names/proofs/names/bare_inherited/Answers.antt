use Rattle.std.proofs.Common.{◌≡◌, ◌≤◌, ◌++◌, ◌∷◌, [], List, Option, Some, None, true, false, refl, ap, sym, subst}
use Rattle.std.proofs.Common.{◌∙◌, arith, drop, suc, add-one, length}
use Rattle.std.specs.Prelude.{Ok, Err, if◌then◌else◌}
use Rattle.ruby_types.specs.declared.value.Value.{Value}
use Rattle.program_places.specs.Paths.{Path}
use Rattle.ruby_runs.specs.Doing.{Doing, pure}
use Rattle.ruby_runs.specs.Names as spec
use Rattle.ruby_machine_names.specs.Profile.{profile}
use Rattle.ruby_machine_names.specs.Names as names
use Rattle.ruby_machine_names.specs.Steps.{Ends, EndsAt, NameGoes, PathGoes, Settles, WholeGoes, here_of}
use Rattle.ruby_machine_names.specs.declared.search.Outer.TheVariants as outer
use Rattle.ruby_machine_names.specs.declared.names.NameStep.TheVariants as name_step
use Rattle.ruby_machine_names.proofs.Going.{bare_goes, inherited_without_code, inherited_by_first}
use Rattle.ruby_machine_names.proofs.names.bare_inherited.Goals as goal

pub returns-then-not-in_code : goal.returns-then-not-in_code
returns-then-not-in_code g c =
    let i = g.P.Lookups.index c.args.program.now in
    let h = here_of c.args.here.now in
    let later : Value → Doing Path = λ v. names.after_ancestors i h outer.Scopes c.args.name.now (spec.members_of v) in
    let in_code : c.args.in_code ≡ false = c.if-not-in_code.true in
    bare_goes i h later c.args.in_code c.args.name.now (pure None) c.args.turns.now c.gives.result c.args.turns.now
    (subst (λ b. spec.inherited_by i profile h b c.args.name.now c.args.here.now.scopes ≡ pure None) (sym in_code)
    (inherited_without_code i h c.args.name.now c.args.here.now.scopes))
    (c.gives.ensures later (names.fallback i h outer.Scopes c.args.name.now) c.args.turns.now c.fallback.ensures)

pub returns-then-is_empty : goal.returns-then-is_empty
returns-then-is_empty g c =
    let i = g.P.Lookups.index c.args.program.now in
    let h = here_of c.args.here.now in
    let later : Value → Doing Path = λ v. names.after_ancestors i h outer.Scopes c.args.name.now (spec.members_of v) in
    let empty : c.args.here.now.scopes ≡ [] = c.is_empty.ensures.0 c.if-is_empty.true in
    bare_goes i h later c.args.in_code c.args.name.now (pure None) c.args.turns.now c.gives-then-is_empty.result
    c.args.turns.now
    (ap (λ l. spec.inherited_by i profile h c.args.in_code c.args.name.now l) empty)
    (c.gives-then-is_empty.ensures later (names.fallback i h outer.Scopes c.args.name.now) c.args.turns.now
    c.fallback-then-is_empty.ensures)

pub returns-else-is_empty : goal.returns-else-is_empty
returns-else-is_empty g c =
    let i = g.P.Lookups.index c.args.program.now in
    let h = here_of c.args.here.now in
    let later : Value → Doing Path = λ v. names.after_ancestors i h outer.Scopes c.args.name.now (spec.members_of v) in
    let in_code : c.args.in_code ≡ true = c.if-not-in_code.false in
    bare_goes i h later c.args.in_code c.args.name.now
    (spec.inherited i profile h true c.args.name.now c.at-scope.result.now) c.args.turns.now c.inherit.result
    c.inherit.new.turns
    (subst (λ b. spec.inherited_by i profile h b c.args.name.now c.args.here.now.scopes
    ≡ spec.inherited i profile h true c.args.name.now c.at-scope.result.now) (sym in_code)
    (inherited_by_first i h c.args.name.now c.args.here.now.scopes c.at-scope.result.now c.at-scope.ensures))
    c.inherit.ensures
