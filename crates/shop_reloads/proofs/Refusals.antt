-- What is known of a refusal.
use Rattle.std.specs.Prelude.{Result, Ok, Err, IfErr}

-- what follows of a refusal holds of it
pub if_err_map : {A E : Type 0} (r : Result A E) (P Q : E → Type 0) → ((e : E) → P e → Q e) → IfErr r P → IfErr r Q
if_err_map (Ok a) P Q follows is = tt
if_err_map (Err e) P Q follows is = follows e is
