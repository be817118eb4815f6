use Rattle.std.proofs.Common.{length, drop}
use Rattle.std.proofs.lemmas.Bool.Decides.{Decides-eqb}
use Rattle.std.proofs.lemmas.Slice.Eq.{starts_is}
use Rattle.outside.proofs.watched.begins_with.Goals as goal

pub returns : goal.returns
returns c =
    let is = starts_is Decides-eqb c.args.path.now c.args.first.now _ c.starts_with.ensures.value in
    (λ yes. (drop (length c.args.first.now) c.args.path.now, is.0 yes), λ begins. is.1 begins.0 begins.1)
