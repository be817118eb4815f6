-- A table without values.
use Rattle.std.proofs.Common.{◌≡◌, Option, Some, None, sym, ap, ◌∙◌}
use Rattle.std.proofs.lemmas.Option.{none-some}
use Rattle.by_need.specs.Rounds.{Part}

-- a table without values is part of whatever is known
pub empty_is_part : {T V : Type 0} (K known : T → Option V) → K ≡ (λ task. None) → Part K known
empty_is_part {T} {V} K known e =
    record { keeps = λ t v is. absurd (none-some v (sym (ap (λ (L : T → Option V). L t) e) ∙ is)) }
