use Rattle.std.proofs.Common.{◌+◌, ◌∙◌, ap, sym, subst}
use Rattle.std.specs.Prelude.{Err}
use Rattle.program_lookups.specs.Codes.{method_of}
use Rattle.program_places.specs.Places.{Reads}
use Rattle.ruby_runs.specs.Doing.{spent}
use Rattle.ruby_machine_names.specs.Steps.{here_of}
use Rattle.ruby_machine_frames.specs.Rest.{KeptFrom, load}
use Rattle.ruby_machine_frames.specs.declared.stack.Core.{Core}
use Rattle.ruby_machine_entering.specs.Methods.{code_here, enters}
use Rattle.ruby_machine_entering.proofs.Invoking.{read_object_kept, unread_kept}
use Rattle.ruby_machine_entering.proofs.entering.read.Goals as goal

pub returns-then-not-spend : goal.returns-then-not-spend
returns-then-not-spend c index known left args =
    let here = here_of c.in_ok-code_of.field-0 in
    unread_kept index known c.args.core.now c.args.giving (method_of known c.args.method.now) c.args.on args
    (Err c.stop_with.result) c.spend.new.self left c.args.name.now here c.stop_with.result
    (c.in_ok-code_of.ensures ∙ ap (λ (o : Core). code_here o.here.limit c.args.method.now) c.if-not-spend.ensures.1)
    c.if-not-spend.ensures.0 (c.stop_with.ensures (spent here) c.spent.ensures)

pub returns-in-Object : goal.returns-in-Object
returns-in-Object c index known left args =
    let m = c.args.core.now in
    let method = method_of known c.args.method.now in
    subst (λ g. KeptFrom index known (enters index known m g left method (Reads c.args.name.now) c.args.on args)
    (load m + 9) c.made.result c.made.new.core) (sym c.in-Object.is)
    (read_object_kept index known m c.spend.new.self method c.args.on args left c.args.name.now c.made.result
    c.made.new.core c.if-not-spend.ensures (c.made.ensures index known))
