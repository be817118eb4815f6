use Rattle.std.proofs.Common.{◌≡◌, ◌∙◌, ap, arith, map, sym}
use Rattle.std.specs.Prelude.{Err}
use Rattle.program_lookups.specs.Codes.{mention_of}
use Rattle.ruby_machine_files.proofs.Going.{go_along}
use Rattle.ruby_machine_ancestors.specs.Ancestors.{goes_on, includes_at, mentioned, waits, with_members}
use Rattle.ruby_machine_ancestors.specs.declared.mentions.Role.TheVariants as role
use Rattle.ruby_machine_ancestors.proofs.Going.{failed_run, include_came, next_include, one_more}
use Rattle.ruby_machine_ancestors.proofs.run.each_include.Goals as goal

pub includes-preserved : goal.includes-preserved
includes-preserved g c =
    let i = g.P.Lookups.index c.args.program.now in
    let run = c.includes.run in
    let inv = c.includes.invariant in
    let mention = c.index-includes-at.result in
    let all : map mention_of c.args.includes.now ≡ includes_at i run.path
    = c.requires ∙ ap (includes_at i) (sym inv.path) in
    record {
      same = inv.same ∙ include_came i run c.args.includes.now mention c.includes.at inv.count c.index-includes-at.is
          (omega (arith, c.includes-test.true)) all c.in-Members.members c.push.new.self c.mention.new.turns
          (rw c.in-Members.is at c.in-Ok.ensures) c.in_ok-push-in-Members.ensures.ok;
      path = inv.path;
      count = one_more i run c.args.includes.now mention c.includes.at inv.count c.index-includes-at.is
          (omega (arith, c.includes-test.true)) all c.in-Members.members c.push.new.self
          c.in_ok-push-in-Members.ensures.ok;
    }

pub returns-in-Asks : goal.returns-in-Asks
returns-in-Asks g c =
    let i = g.P.Lookups.index c.args.program.now in
    let run = c.includes.run in
    let inv = c.includes.invariant in
    let mention = c.index-includes-at.result in
    let all : map mention_of c.args.includes.now ≡ includes_at i run.path
    = c.requires ∙ ap (includes_at i) (sym inv.path) in
    inv.same ∙ (next_include i run c.args.includes.now mention c.includes.at inv.count c.index-includes-at.is
    (omega (arith, c.includes-test.true)) all
    ∙ (rw c.in-Asks.is at c.in-Ok.ensures).0 (with_members i run role.Included))

pub returns-in-Err : goal.returns-in-Err
returns-in-Err g c =
    let i = g.P.Lookups.index c.args.program.now in
    let run = c.includes.run in
    let inv = c.includes.invariant in
    let mention = c.index-includes-at.result in
    let included = mentioned i run.file role.Included (mention_of mention) in
    let all : map mention_of c.args.includes.now ≡ includes_at i run.path
    = c.requires ∙ ap (includes_at i) (sym inv.path) in
    go_along (waits i) (goes_on i c.args.run) (included run.turns (with_members i run role.Included))
    (Err c.in-Err.failure)
    (inv.same ∙ next_include i run c.args.includes.now mention c.includes.at inv.count c.index-includes-at.is
    (omega (arith, c.includes-test.true)) all)
    (failed_run i run role.Included included run.turns c.mention.new.turns c.in-Err.failure c.in-Err.ensures)
