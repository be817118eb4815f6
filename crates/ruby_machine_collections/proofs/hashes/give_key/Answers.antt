use Rattle.std.proofs.Common.{◌+◌, refl, arith}
use Rattle.ruby_machine_frames.specs.declared.frames.Frame.TheVariants as frame
use Rattle.ruby_machine_frames.specs.Rest.{load, pushes}
use Rattle.ruby_machine_frames.proofs.Steps.{kept_along}
use Rattle.ruby_machine_values.specs.Beginning.{handed}
use Rattle.ruby_machine_collections.proofs.hashes.give_key.Goals as goal

pub returns : goal.returns
returns c i k =
    let m = c.args.core.now in
    kept_along i k (pushes i k m (frame.Pair c.args.key c.args.more c.args.done) c.args.value)
    (handed i k m (frame.Key c.args.value c.args.more c.args.done) c.args.key) (load m + 5) (load m + 9)
    c.push_eval.result c.push_eval.new.self refl (omega arith) (c.push_eval.ensures i k)
