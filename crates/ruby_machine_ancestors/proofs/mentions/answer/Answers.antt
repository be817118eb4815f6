use Rattle.std.proofs.Common.{sym, subst}
use Rattle.ruby_machine_names.specs.Names.{later}
use Rattle.ruby_machine_names.specs.Steps.{here_of}
use Rattle.ruby_machine_ancestors.specs.Ancestors.{MentionGoes, waited}
use Rattle.ruby_machine_ancestors.proofs.mentions.answer.Goals as goal

pub returns-in-Ok : goal.returns-in-Ok
returns-in-Ok g c =
    let i = g.P.Lookups.index c.args.program.now in
    let file = c.args.file.now in
    subst (λ a. MentionGoes (waited i file c.args.role) (waited i file c.args.role a c.args.value) c.args.turns.now
    c.go_on.result c.go_on.new.turns) (sym c.in-Constant.is)
    (c.go_on.ensures (later i (here_of c.in-Constant.here) c.in-Constant.wait c.args.value) c.args.turns.now
    c.in-Ok.ensures)
