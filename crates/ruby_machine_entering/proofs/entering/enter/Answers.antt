use Rattle.std.proofs.Common.{refl}
use Rattle.program_lookups.specs.Codes.{method_of}
use Rattle.ruby_machine_entering.proofs.Invoking.{entered_kept}
use Rattle.ruby_machine_entering.proofs.entering.enter.Goals as goal

pub returns : goal.returns
returns c index known =
    let pushed = rw (
      c.leaving.ensures,
      c.replace.ensures.value,
      c.replace.ensures.after,
      c.replace-2.ensures.value,
      c.replace-2.ensures.after,
    ) at c.in_ok-push.ensures in
    entered_kept index known c.args.core.now (method_of known c.args.method.now) c.args.first c.args.on c.args.args.now
    c.args.giving c.in_ok-here.here (record { itself = c.args.on; locals = c.in_ok-locals.locals })
    c.in_ok-push.field-0 c.push.new.self c.in_ok-here.ensures refl c.in_ok-locals.ensures pushed
