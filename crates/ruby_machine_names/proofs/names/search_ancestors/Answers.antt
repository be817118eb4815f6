use Rattle.std.proofs.Common.{◌≡◌, ◌≤◌, ◌++◌, ◌∷◌, [], List, Option, Some, None, true, false, refl, ap, sym, subst}
use Rattle.std.proofs.Common.{◌∙◌, arith, drop, suc, add-one, length}
use Rattle.std.specs.Prelude.{Ok, Err, if◌then◌else◌}
use Rattle.ruby_types.specs.declared.value.Value.{Value}
use Rattle.program_places.specs.Paths.{Path}
use Rattle.ruby_runs.specs.Doing.{Doing, pure}
use Rattle.ruby_runs.specs.Names as spec
use Rattle.ruby_machine_names.specs.Profile.{profile}
use Rattle.ruby_machine_names.specs.Names as names
use Rattle.ruby_machine_names.specs.Steps.{Ends, EndsAt, NameGoes, PathGoes, Settles, WholeGoes, here_of}
use Rattle.ruby_machine_names.specs.declared.search.Outer.TheVariants as outer
use Rattle.ruby_machine_names.specs.declared.names.NameStep.TheVariants as name_step
use Rattle.ruby_machine_names.proofs.Going.{other_settles}
use Rattle.ruby_machine_names.proofs.names.search_ancestors.Goals as goal

pub returns-in-Ok-None : goal.returns-in-Ok-None
returns-in-Ok-None g c =
    let i = g.P.Lookups.index c.args.program.now in
    let h = here_of c.args.here.now in
    let s : Doing (Option Path) = spec.search i profile c.args.name.now (spec.members_of c.args.value.now) in
    other_settles i s (names.fallback i h c.args.outer.now c.args.name.now) c.fallback.result
    (subst (λ r. Settles s r) (c.in-Ok-None.is ∙ ap Ok c.in-Ok-None.field-0-is)
    (subst (λ l. Settles (spec.search i profile c.args.name.now l) c.search.result)
    (c.deref.ensures.value ∙ c.in_ok-members.ensures) c.search.ensures)) c.fallback.ensures
