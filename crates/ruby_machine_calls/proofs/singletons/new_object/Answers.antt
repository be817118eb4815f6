use Rattle.std.proofs.Common.{◌+◌, refl, sym, subst}
use Rattle.std.specs.Option.{option_map}
use Rattle.ruby_types.specs.declared.value.Value.TheVariants as value
use Rattle.program_lookups.specs.Codes.{method_of}
use Rattle.ruby_runs.specs.BuiltIns.{made}
use Rattle.ruby_machine_names.specs.Steps.{here_of}
use Rattle.ruby_machine_frames.specs.Rest.{KeptFrom, gives_of, load, new_by}
use Rattle.ruby_machine_entering.specs.Methods.{invokes}
use Rattle.ruby_machine_entering.specs.declared.entering.Giving.TheVariants as giving
use Rattle.ruby_machine_calls.proofs.Calling.{made_alone}
use Rattle.ruby_machine_calls.proofs.singletons.new_object.Goals as goal

pub returns-in-Some : goal.returns-in-Some
returns-in-Some g c =
    let i = g.P.Lookups.index c.args.program.now in
    let k = g.P.Lookups.entries c.args.program.now in
    let m = c.args.core.now in
    subst (λ found. KeptFrom i k (new_by i k m.left (here_of m.here) c.args.path c.args.args.now
    (option_map (λ x. method_of k x.now) found) m.turns (gives_of i k m)) (load m + 9) c.invoke.result
    c.invoke.new.core) (sym c.in-Some.is)
    (subst (λ variables. KeptFrom i k (invokes i k m giving.Object (method_of k c.in-Some.method.now)
    (value.Object c.args.path variables) c.args.args.now) (load m + 9) c.invoke.result c.invoke.new.core)
    c.new.ensures (c.invoke.ensures i k))

pub returns-in-None : goal.returns-in-None
returns-in-None g c =
    let i = g.P.Lookups.index c.args.program.now in
    let k = g.P.Lookups.entries c.args.program.now in
    let m = c.args.core.now in
    subst (λ found. KeptFrom i k (new_by i k m.left (here_of m.here) c.args.path c.args.args.now
    (option_map (λ x. method_of k x.now) found) m.turns (gives_of i k m)) (load m + 9) c.made.result
    c.made.new.core) (sym c.in-None.is)
    (made_alone i k m c.made.result c.made.new.core c.args.path c.args.args.now (c.if-is_empty.ensures.0 refl)
    (subst (λ variables. KeptFrom i k (made (here_of m.here) (value.Object c.args.path variables) m.turns
    (gives_of i k m)) (load m + 6) c.made.result c.made.new.core) c.new.ensures (c.made.ensures i k)))
