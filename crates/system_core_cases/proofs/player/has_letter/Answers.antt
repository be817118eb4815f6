use Rattle.std.proofs.Common.{sym, ap, ◌∙◌, is_some}
use Rattle.system_core.proofs.Finding.{is_in_lookup, map_some}
use Rattle.system_core_cases.specs.Letters.{letters}
use Rattle.system_core_cases.proofs.player.has_letter.Goals as goal

pub returns : goal.returns
returns c =
    c.is_some.ensures
    ∙ (sym (map_some (λ value. value.now) c.value.result)
    ∙ (ap is_some c.value.ensures ∙ is_in_lookup letters c.args.letter c.args.system.now.state.table))
