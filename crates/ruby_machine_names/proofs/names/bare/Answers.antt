use Rattle.std.proofs.Common.{◌≡◌, ◌≤◌, ◌++◌, ◌∷◌, [], List, Option, Some, None, true, false, refl, ap, sym, subst}
use Rattle.std.proofs.Common.{◌∙◌, arith}
use Rattle.std.specs.Prelude.{Ok, Err, if◌then◌else◌}
use Rattle.program_places.specs.Paths.{Path}
use Rattle.ruby_runs.specs.Names as spec
use Rattle.ruby_machine_names.specs.Profile.{profile}
use Rattle.ruby_machine_names.specs.Names as names
use Rattle.ruby_machine_names.specs.Steps.{Ends, EndsAt, NameGoes, PathGoes, Settles, WholeGoes, here_of}
use Rattle.ruby_machine_names.specs.declared.search.Outer.TheVariants as outer
use Rattle.ruby_machine_names.proofs.Going.{other_goes}
use Rattle.ruby_machine_names.proofs.names.bare.Goals as goal

pub returns-in-None : goal.returns-in-None
returns-in-None g c =
    let i = g.P.Lookups.index c.args.program.now in
    let h = here_of c.args.here.now in
    other_goes i (spec.search i profile c.args.name.now c.args.here.now.scopes)
    (names.bare_inherits i h c.args.in_code c.args.name.now) (λ v. names.after_ancestors i h outer.Scopes
    c.args.name.now (spec.members_of v)) c.args.turns.now c.bare_inherited.result
    c.bare_inherited.new.turns (rw (c.as_slice.ensures, c.in-None.is) at c.in_ok-found.ensures) c.bare_inherited.ensures
