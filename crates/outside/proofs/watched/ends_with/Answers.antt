use Rattle.std.proofs.Common.{length, take, ◌-◌}
use Rattle.std.proofs.lemmas.Bool.Decides.{Decides-eqb}
use Rattle.std.proofs.lemmas.Slice.Eq.{ends_is}
use Rattle.outside.proofs.watched.ends_with.Goals as goal

pub returns : goal.returns
returns c =
    let is = ends_is Decides-eqb c.args.path.now c.args.last.now _ c.ends_with.ensures.value in (
      λ yes. (take (length c.args.path.now - length c.args.last.now) c.args.path.now, is.0 yes),
      λ ends.
          is.1 ends.0 ends.1,
    )
