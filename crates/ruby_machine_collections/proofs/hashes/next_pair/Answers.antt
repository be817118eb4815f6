use Rattle.std.proofs.Common.{◌+◌, subst}
use Rattle.ruby_types.specs.declared.value.Value.TheVariants.{Hash}
use Rattle.ruby_runs.specs.BuiltIns.{made}
use Rattle.ruby_machine_names.specs.Steps.{here_of}
use Rattle.ruby_machine_frames.specs.Rest.{KeptFrom, gives_of, load}
use Rattle.ruby_machine_frames.proofs.Steps.{pairs_go, pairs_end}
use Rattle.ruby_machine_collections.proofs.hashes.next_pair.Goals as goal

pub returns-in-Some : goal.returns-in-Some
returns-in-Some c i =
    pairs_go i c.args.nodes.now c.args.core.now c.push_eval.result c.push_eval.new.self c.args.more c.in-Some.key
    c.in-Some.value c.in-Some.others c.args.done c.in-Some.ensures (c.push_eval.ensures i c.args.nodes.now)

pub returns-in_ok-pairs-in-None : goal.returns-in_ok-pairs-in-None
returns-in_ok-pairs-in-None c i =
    let m = c.args.core.now in
    let k = c.args.nodes.now in
    pairs_end i k m c.made.result c.made.new.core c.args.more c.args.done c.in-None.ensures
    (subst (λ ps. KeptFrom i k (made (here_of m.here) (Hash ps) m.turns (gives_of i k m)) (load m + 6) c.made.result
    c.made.new.core) (rw c.as_slice.ensures.value at c.in_ok-pairs-in-None.ensures) (c.made.ensures i k))
