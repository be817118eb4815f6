use Rattle.std.proofs.Common.{◌≡◌, ◌↔◌, ◌∙◌, ap, subst, true}
use Rattle.generation_runs.proofs.Told.{stamps_told}
use Rattle.generation_runs.proofs.generation.Generation.has_stamps.Goals as goal
use Rattle.outside.specs.Tree.{stamps_of}

pub returns : goal.returns
returns c = stamps_told c.args.stamps.now c.args.self.now.files c.are_stamps_of.result
    (subst (λ files. (c.are_stamps_of.result ≡ true) ↔ (c.args.stamps.now ≡ stamps_of files)) c.files.ensures
    (subst (λ stamps. (c.are_stamps_of.result ≡ true) ↔ (stamps ≡ stamps_of c.files.result.now)) c.as_slice.ensures
    c.are_stamps_of.ensures))
