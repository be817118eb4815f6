use Rattle.std.proofs.Common.{ap, rules}
use Rattle.std.specs.Ordering.{is_lt}
use Rattle.std.proofs.lemmas.Fn.{always_returns_same}
use Rattle.std.proofs.lemmas.Result.{on_ok_weaker}
use Rattle.program_methods.specs.Methods.{name_order}
use Rattle.program_methods.proofs.MethodLaws.{name_ranks}
use Rattle.program_methods.proofs.method_table.put_in_order.Goals as goal

-- the closure compares by the order of names
pub returns-clause-sorted : goal.returns-clause-sorted
returns-clause-sorted c =
    on_ok_weaker c.sort_by.result (λ sorts. sorts (λ s t. is_lt (name_order s t)) name_ranks
    (always_returns_same _ _ _ (λ a r g called. (ap is_lt (search rules), search rules)))) c.sort_by.ensures.sorted

pub returns-clause-stable : goal.returns-clause-stable
returns-clause-stable c = c.sort_by.ensures.stable (λ s t. is_lt (name_order s t)) name_ranks
    (always_returns_same _ _ _ (λ a r g called. (ap is_lt (search rules), search rules)))
