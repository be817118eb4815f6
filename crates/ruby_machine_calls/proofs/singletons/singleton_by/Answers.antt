use Rattle.std.proofs.Common.{◌+◌, sym, subst}
use Rattle.std.specs.Option.{option_map}
use Rattle.program_lookups.specs.Codes.{method_of}
use Rattle.ruby_machine_names.specs.Steps.{here_of}
use Rattle.ruby_machine_frames.specs.Rest.{KeptFrom, gives_of, load, singleton_or}
use Rattle.ruby_machine_calls.proofs.singletons.singleton_by.Goals as goal

pub returns-in-Some : goal.returns-in-Some
returns-in-Some g c =
    let i = g.P.Lookups.index c.args.program.now in
    let k = g.P.Lookups.entries c.args.program.now in
    let m = c.args.core.now in
    subst (λ found. KeptFrom i k (singleton_or i k m.left (here_of m.here) c.args.path c.args.name.now c.args.args
    (option_map (λ x. method_of k x.now) found) m.turns (gives_of i k m)) (load m + 9) c.invoke.result
    c.invoke.new.core) (sym c.in-Some.is) (c.invoke.ensures i k)
