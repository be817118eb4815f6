use Rattle.std.proofs.Common.{◌+◌, [], ap, ◌∙◌, subst}
use Rattle.ruby_builtin_keys.specs.Merging.{merged}
use Rattle.ruby_machine_names.specs.Steps.{here_of}
use Rattle.ruby_machine_state.specs.States.{state_of}
use Rattle.ruby_machine_frames.specs.Rest.{KeptFrom, gives_of, load, pairs_behind}
use Rattle.ruby_machine_collections.proofs.Merging.{merged_more}
use Rattle.ruby_machine_collections.proofs.hashes.give_pair.Goals as goal

pub returns : goal.returns
returns c i =
    let m = c.args.core.now in
    let k = c.args.nodes.now in
    subst (λ h. KeptFrom i k (pairs_behind i k m.left (here_of m.here) c.args.more h (state_of m.state) m.turns
    (gives_of i k m)) (load m + 9) c.next_pair.result c.next_pair.new.core)
    (ap (merged []) c.in_ok-push.ensures ∙ merged_more [] c.args.done.items (c.args.key, c.args.value))
    (c.next_pair.ensures i)
