use Rattle.std.proofs.Common.{◌∙◌, ap}
use Rattle.std.specs.Option.{option_map}
use Rattle.std.specs.Prelude.{Err}
use Rattle.program_lookups.specs.Codes.{mention_of, opening_of}
use Rattle.ruby_runs.specs.Runs.{ancestors_of, run_limits}
use Rattle.ruby_machine_names.specs.Profile.{profile}
use Rattle.ruby_machine_files.proofs.Going.{go_along}
use Rattle.ruby_machine_files.specs.Files.{finish}
use Rattle.ruby_machine_ancestors.specs.Ancestors.{mentioned, waits, with_members}
use Rattle.ruby_machine_ancestors.specs.declared.mentions.Role.TheVariants as role
use Rattle.ruby_machine_ancestors.proofs.Going.{failed_run, parent_first}
use Rattle.ruby_machine_ancestors.proofs.run.begin_opened.Goals as goal

pub returns-in-Ok : goal.returns-in-Ok
returns-in-Ok g c opens parent includes =
    let i = g.P.Lookups.index c.args.program.now in
    let run = c.args.run in
    let mention = mention_of c.in-Some.parent in
    let doing = mentioned i run.file role.Parent mention in
    go_along (waits i)
    (ancestors_of i profile run_limits run.file run.path (opening_of (i.place run.path)) run.turns finish)
    (doing run.turns (with_members i run role.Parent)) c.step.result
    (parent_first i run mention (opens.1 ∙ ap (option_map mention_of) c.in-Some.is) includes)
    (c.step.ensures doing run.turns c.in-Ok.ensures)

pub returns-in-Err : goal.returns-in-Err
returns-in-Err g c opens parent includes =
    let i = g.P.Lookups.index c.args.program.now in
    let run = c.args.run in
    let mention = mention_of c.in-Some.parent in
    let doing = mentioned i run.file role.Parent mention in
    go_along (waits i)
    (ancestors_of i profile run_limits run.file run.path (opening_of (i.place run.path)) run.turns finish)
    (doing run.turns (with_members i run role.Parent)) (Err c.in-Err.failure)
    (parent_first i run mention (opens.1 ∙ ap (option_map mention_of) c.in-Some.is) includes)
    (failed_run i run role.Parent doing run.turns c.mention.new.turns c.in-Err.failure c.in-Err.ensures)
