use Rattle.std.proofs.Common.{subst}
use Rattle.std.specs.Prelude.{false}
use Rattle.ruby_runs.specs.Names.{resolved}
use Rattle.ruby_machine_names.specs.Profile.{profile}
use Rattle.ruby_machine_names.specs.Steps.{here_of}
use Rattle.ruby_machine_ancestors.specs.Ancestors.{MentionGoes, found_judged, waited}
use Rattle.ruby_machine_ancestors.proofs.mentions.mention.Goals as goal

pub returns-in-Ok : goal.returns-in-Ok
returns-in-Ok g c =
    let i = g.P.Lookups.index c.args.program.now in
    let file = c.args.file.now in
    let constant = c.args.mention.now.constant in
    subst (λ here. MentionGoes (waited i file c.args.role)
    (found_judged i file c.args.role (resolved i profile here false constant)) c.args.turns.now c.go_on.result
    c.go_on.new.turns) (rw c.in_ok-copy.ensures at c.in_ok-here.ensures)
    (c.go_on.ensures (resolved i profile (here_of c.in_ok-here.here) false constant) c.args.turns.now c.in-Ok.ensures)
