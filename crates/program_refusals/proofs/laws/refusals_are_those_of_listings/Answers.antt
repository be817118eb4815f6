use Rattle.program_refusals.proofs.Reasons.{refusal_is_refused}
use Rattle.program_refusals.proofs.laws.refusals_are_those_of_listings.Goals as goal

pub returns : goal.returns
returns c = refusal_is_refused
