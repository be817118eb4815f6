use Rattle.std.proofs.Common.{◌∙◌, ap}
use Rattle.outside.specs.CallState.{CallState}
use Rattle.replay_files.proofs.Edits.{calls_stay}
use Rattle.replay_files.proofs.files.Files.write.Goals as goal

pub invariant_of-self : goal.invariant_of-self
invariant_of-self c = ap (λ (calls : CallState). calls.fails)
    (calls_stay c.is_watched_path-is_watched.result c.write.result c.args.path.now c.args.bytes.now _ c.write.new.self
    c.is_watched_path-is_watched.ensures c.write.ensures.ok c.write.ensures.err) ∙ c.self.invariant
