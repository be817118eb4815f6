use Rattle.std.proofs.Common.{◌≡◌, ◌≤◌, ◌++◌, ◌∷◌, [], List, Option, Some, None, true, false, refl, ap, sym, subst}
use Rattle.std.proofs.Common.{◌∙◌, arith}
use Rattle.std.specs.Prelude.{Ok, Err, if◌then◌else◌}
use Rattle.program_places.specs.Paths.{Path}
use Rattle.ruby_runs.specs.Names as spec
use Rattle.ruby_machine_names.specs.Profile.{profile}
use Rattle.ruby_machine_names.specs.Names as names
use Rattle.ruby_machine_names.specs.Steps.{Ends, EndsAt, NameGoes, PathGoes, Settles, WholeGoes, here_of}
use Rattle.ruby_machine_names.specs.declared.search.Outer.TheVariants as outer
use Rattle.ruby_machine_names.proofs.names.answer.Goals as goal

pub returns-in-File : goal.returns-in-File
returns-in-File g c =
    let i = g.P.Lookups.index c.args.program.now in
    let h = here_of c.args.here.now in
    subst (λ a. NameGoes (names.awaited i h) (names.awaited i h a c.args.value) c.args.turns.now c.ask_const.result
    c.ask_const.new.turns) (sym c.in-File.is) (c.ask_const.ensures i)
