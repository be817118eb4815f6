use Rattle.std.proofs.Common.{◌≡◌, ◌≤◌, ◌++◌, ◌∷◌, [], List, Option, Some, None, true, false, refl, ap, sym, subst}
use Rattle.std.proofs.Common.{◌∙◌, arith}
use Rattle.std.specs.Prelude.{Ok, Err, if◌then◌else◌}
use Rattle.program_places.specs.Paths.{Path}
use Rattle.ruby_runs.specs.Names as spec
use Rattle.ruby_machine_names.specs.Profile.{profile}
use Rattle.ruby_machine_names.specs.Names as names
use Rattle.ruby_machine_names.specs.Steps.{Ends, EndsAt, NameGoes, PathGoes, Settles, WholeGoes, here_of}
use Rattle.ruby_machine_names.specs.declared.search.Outer.TheVariants as outer
use Rattle.ruby_machine_names.proofs.Going.{EndsAt_then, NameGoes_from}
use Rattle.ruby_machine_names.proofs.names.next_name.Goals as goal

pub returns-in-Ok : goal.returns-in-Ok
returns-in-Ok g c =
    let i = g.P.Lookups.index c.args.program.now in
    let h = here_of c.args.here.now in
    let d = names.next_begun i h c.args.in_code (names.found_of c.args.found.now) c.args.name.now in
    NameGoes_from (names.awaited i h) (names.next_named i h c.args.in_code (names.found_of c.args.found.now)
    c.args.name.now)
    d c.args.turns.now c.segment_turn.new.turns c.next_begun.result c.next_begun.new.turns
    (λ go. (c.in-Ok.ensures i).0 (λ u left. d left go)) (c.in-Ok.ensures i).1 c.next_begun.ensures

pub returns-in-Err : goal.returns-in-Err
returns-in-Err g c =
    let i = g.P.Lookups.index c.args.program.now in
    let h = here_of c.args.here.now in
    EndsAt_then (spec.segment_turn i profile h c.args.in_code)
    (λ u. names.next_begun i h c.args.in_code (names.found_of c.args.found.now) c.args.name.now) c.args.turns.now
    c.in-Err.failure (c.in-Err.ensures i)
