use Rattle.std.proofs.Common.{rules}
use Rattle.std.specs.Ordering.{nat_cmp}
use Rattle.std.specs.Cmp.Lexicographic.{slice_cmp}
use Rattle.std.proofs.lemmas.Fn.{always_returns_same}
use Rattle.app_config.proofs.IndexLaws.{searched-contains}
use Rattle.app_config.proofs.plain_patterns.contains.Goals as goal

-- the closure compares a text with the one that is sought
pub returns : goal.returns
returns c =
    searched-contains c.args.sorted.now c.args.text.now c.binary_search_by.result c.is_ok.result c.requires
    c.binary_search_by.ensures.bound
    (c.binary_search_by.ensures.position (λ one. slice_cmp nat_cmp one.now c.args.text.now)
    (always_returns_same _ _ _ (λ a r g called. (search rules, search rules)))) c.is_ok.ensures.value
