use Rattle.program_facts.proofs.Members.{needs_by_events, needs_by_rules}
use Rattle.program_facts.proofs.laws.needs_by_events_and_rules.Goals as goal

pub returns : goal.returns
returns c = λ app t u. (needs_by_events app t u, needs_by_rules app t u)
