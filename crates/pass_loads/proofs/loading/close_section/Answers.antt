use Rattle.std.proofs.Common.{◌∷◌, [], inl, inr}
use Rattle.system_events.specs.declared.event.Kept.TheVariants.{Release, Resume}
use Rattle.request_laws.specs.Conduct.{free, resumed}
use Rattle.pass_loads.proofs.loading.close_section.Goals as goal

pub returns-clause-acts : goal.returns-clause-acts
returns-clause-acts g c = elim c.done_loading.ensures.made [
  | inl at_once ↦ (Release ∷ [], (free, at_once))
  | inr later ↦ (Release ∷ Resume ∷ [], (resumed, later))
]
