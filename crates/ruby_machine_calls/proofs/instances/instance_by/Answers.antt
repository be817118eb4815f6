use Rattle.std.proofs.Common.{◌+◌, sym, subst}
use Rattle.std.specs.Option.{option_map}
use Rattle.program_lookups.specs.Codes.{method_of}
use Rattle.ruby_runs.specs.BuiltIns.{built_in_call}
use Rattle.ruby_machine_names.specs.Profile.{profile}
use Rattle.ruby_machine_names.specs.Steps.{here_of}
use Rattle.ruby_machine_frames.specs.Rest.{KeptFrom, gives_of, instance_or, load}
use Rattle.ruby_machine_calls.proofs.Calling.{more_kept}
use Rattle.ruby_machine_calls.proofs.instances.instance_by.Goals as goal

pub returns-in-Some : goal.returns-in-Some
returns-in-Some g c =
    let i = g.P.Lookups.index c.args.program.now in
    let k = g.P.Lookups.entries c.args.program.now in
    let m = c.args.core.now in
    subst (λ found. KeptFrom i k (instance_or i k m.left (here_of m.here) c.args.on c.args.name.now c.args.args.now
    (option_map (λ x. method_of k x.now) found) m.turns (gives_of i k m)) (load m + 9) c.invoke.result
    c.invoke.new.core) (sym c.in-Some.is) (c.invoke.ensures i k)

pub returns-in-None : goal.returns-in-None
returns-in-None g c =
    let i = g.P.Lookups.index c.args.program.now in
    let k = g.P.Lookups.entries c.args.program.now in
    let m = c.args.core.now in
    subst (λ found. KeptFrom i k (instance_or i k m.left (here_of m.here) c.args.on c.args.name.now c.args.args.now
    (option_map (λ x. method_of k x.now) found) m.turns (gives_of i k m)) (load m + 9) c.built_in.result
    c.built_in.new.core) (sym c.in-None.is)
    (more_kept i k m c.built_in.result c.built_in.new.core
    (built_in_call profile (here_of m.here) c.args.on c.args.name.now c.args.args.now m.turns (gives_of i k m))
    (c.built_in.ensures i k))
