use Rattle.std.proofs.Common.{ℕ, subst}
use Rattle.app_config.specs.Indexes.Arranged.{IsGroup}
use Rattle.app_config.proofs.IndexLaws.{SomeNames-group}
use Rattle.app_config.proofs.starred.some_names.Goals as goal

pub returns : goal.returns
returns c =
    let P : ℕ → Type 0 = λ wanted. IsGroup wanted c.args.starred.now c.with_slashes.result.now in
    SomeNames-group c.args.starred.now c.with_slashes.result.now c.args.path.now c.is_named_by.result c.requires
    (subst P c.slashes.ensures c.with_slashes.ensures) c.is_named_by.ensures
