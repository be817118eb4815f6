use Rattle.std.proofs.Common.{sym, subst}
use Rattle.ruby_types.specs.declared.value.Value.TheVariants.{Str}
use Rattle.ruby_runs.specs.Doing.{turn}
use Rattle.ruby_machine_names.specs.Steps.{here_of}
use Rattle.ruby_machine_frames.specs.Rest.{KeptFrom, gives_of, load}
use Rattle.ruby_machine_collections.proofs.TextParts.{plain_alone}
use Rattle.ruby_machine_collections.proofs.texts.begin_text.Goals as goal

pub returns-in_ok-copy-in-Some : goal.returns-in_ok-copy-in-Some
returns-in_ok-copy-in-Some c i =
    let m = c.args.core.now in
    let k = c.args.nodes.now in
    subst (λ b. KeptFrom i k b (load m) c.turn_gives.result c.turn_gives.new.self)
    (sym (plain_alone i k m c.args.first c.in-Some.bytes.now c.in-Some.ensures))
    (subst (λ t. KeptFrom i k (turn (here_of m.here) m.turns (λ u n. gives_of i k m (Str t) n)) (load m)
    c.turn_gives.result c.turn_gives.new.self) c.in_ok-copy-in-Some.ensures (c.turn_gives.ensures i k))
