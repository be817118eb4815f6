use Rattle.std.proofs.Common.{◌+◌, sym, subst}
use Rattle.ruby_machine_names.specs.Steps.{here_of}
use Rattle.ruby_machine_frames.specs.Rest.{KeptFrom, calls, gives_of, load}
use Rattle.ruby_machine_calls.proofs.Calling.{module_kept, object_kept, other_kept}
use Rattle.ruby_machine_calls.proofs.calls.call.Goals as goal

pub returns-in-Module : goal.returns-in-Module
returns-in-Module g c =
    let i = g.P.Lookups.index c.args.program.now in
    let k = g.P.Lookups.entries c.args.program.now in
    let m = c.args.core.now in
    subst (λ on. KeptFrom i k (calls i k m.left (here_of m.here) on c.args.name c.args.args m.turns (gives_of i k m))
    (load m + 9) c.call_module.result c.call_module.new.core) (sym c.in-Module.is)
    (module_kept i k m c.call_module.result c.call_module.new.core c.in-Module.path c.args.name c.args.args
    c.call_module.ensures)

pub returns-in-Object : goal.returns-in-Object
returns-in-Object g c =
    let i = g.P.Lookups.index c.args.program.now in
    let k = g.P.Lookups.entries c.args.program.now in
    let m = c.args.core.now in
    subst (λ on. KeptFrom i k (calls i k m.left (here_of m.here) on c.args.name c.args.args m.turns (gives_of i k m))
    (load m + 9) c.call_object.result c.call_object.new.core) (sym c.in-Object.is)
    (object_kept i k m c.call_object.result c.call_object.new.core c.in-Object.class c.in-Object.variables c.args.name
    c.args.args c.call_object.ensures)

pub returns-in_default : goal.returns-in_default
returns-in_default g c =
    let i = g.P.Lookups.index c.args.program.now in
    let k = g.P.Lookups.entries c.args.program.now in
    other_kept i k c.args.core.now c.built_in.result c.built_in.new.core c.args.on c.args.name c.args.args
    c.in_default.not-Module c.in_default.not-Object (c.built_in.ensures i k)
