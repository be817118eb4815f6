use Rattle.std.proofs.Common.{◌≡◌, ◌≤◌, ◌++◌, ◌∷◌, [], List, Option, Some, None, true, false, refl, ap, sym, subst}
use Rattle.std.proofs.Common.{◌∙◌, arith}
use Rattle.std.specs.Prelude.{Ok, Err, if◌then◌else◌}
use Rattle.program_places.specs.Paths.{Path}
use Rattle.ruby_runs.specs.Names as spec
use Rattle.ruby_machine_names.specs.Profile.{profile}
use Rattle.ruby_machine_names.specs.Names as names
use Rattle.ruby_machine_names.specs.Steps.{Ends, EndsAt, NameGoes, PathGoes, Settles, WholeGoes, here_of}
use Rattle.ruby_machine_names.specs.declared.search.Outer.TheVariants as outer
use Rattle.ruby_machine_names.proofs.Going.{top_missing}
use Rattle.ruby_machine_names.proofs.search.at_top.Goals as goal

pub returns-else-is_there : goal.returns-else-is_there
returns-else-is_there g c =
    let i = g.P.Lookups.index c.args.program.now in
    let h = here_of c.args.here.now in
    top_missing i h (c.args.told.now ++ c.args.name.now ∷ []) c.args.name.now c.uninitialized.result
    (ap (λ p. spec.is_there (i.place p)) (sym c.in_ok-path.ensures)
    ∙ (sym c.is_there.ensures ∙ c.if-is_there.false)) c.uninitialized.ensures
