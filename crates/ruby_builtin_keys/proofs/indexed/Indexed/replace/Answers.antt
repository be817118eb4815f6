use Rattle.std.proofs.Common.{set, ap, ◌∙◌}
use Rattle.std.proofs.lemmas.Option.{get_or_from_slice_get}
use Rattle.ruby_builtin_keys.proofs.PlaceLaws.{index-set}
use Rattle.ruby_builtin_keys.proofs.indexed.Indexed.replace.Goals as goal

pub invariant_of-result-clause-indexed : goal.invariant_of-result-clause-indexed
invariant_of-result-clause-indexed c =
    index-set c.args.self.rows.items c.args.self.pairs.items c.args.place (c.index_mut.result.now.0, c.args.value)
    c.index_mut.result.now c.args.self.indexed (ap (λ p. p.0) c.index_mut.ensures.value) c.requires

pub returns : goal.returns
returns c = λ pair at.
    ap (λ p. set c.args.self.pairs.items c.args.place (p.0, c.args.value))
    (c.index_mut.ensures.value ∙ get_or_from_slice_get c.args.self.pairs.items c.args.place pair _ at)
