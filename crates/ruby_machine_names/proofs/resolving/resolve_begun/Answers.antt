use Rattle.std.proofs.Common.{◌≡◌, ◌≤◌, ◌++◌, ◌∷◌, [], List, Option, Some, None, true, false, refl, ap, sym, subst}
use Rattle.std.proofs.Common.{◌∙◌, arith, drop, suc, add-one, length}
use Rattle.std.specs.Prelude.{Ok, Err, if◌then◌else◌}
use Rattle.ruby_types.specs.declared.value.Value.{Value}
use Rattle.program_places.specs.Paths.{Path}
use Rattle.ruby_runs.specs.Doing.{Doing, pure}
use Rattle.ruby_runs.specs.Names as spec
use Rattle.ruby_machine_names.specs.Profile.{profile}
use Rattle.ruby_machine_names.specs.Names as names
use Rattle.ruby_machine_names.specs.Steps.{Ends, EndsAt, NameGoes, PathGoes, Settles, WholeGoes, here_of}
use Rattle.ruby_machine_names.specs.declared.search.Outer.TheVariants as outer
use Rattle.ruby_machine_names.specs.declared.names.NameStep.TheVariants as name_step
use Rattle.ruby_machine_names.proofs.Going.{begun_first}
use Rattle.ruby_machine_names.proofs.resolving.resolve_begun.Goals as goal

pub returns-in-Ok : goal.returns-in-Ok
returns-in-Ok g c =
    let i = g.P.Lookups.index c.args.program.now in
    let h = here_of c.args.here.now in
    begun_first i h c.args.in_code c.args.constant.now.top c.args.constant.now.path c.at-first.result.now
    c.args.turns.now
    c.go_on.result c.go_on.new.turns c.at-first.ensures
    (subst (λ l. WholeGoes (names.later i h) (names.with_rest i h c.args.in_code (drop 1 l)
    (names.first_named i h c.args.in_code c.args.constant.now.top c.at-first.result.now)) c.args.turns.now
    c.go_on.result
    c.go_on.new.turns) c.in_ok-all.ensures
    (c.go_on.ensures (names.first_named i h c.args.in_code c.args.constant.now.top c.at-first.result.now)
    c.args.turns.now
    c.in-Ok.ensures))
