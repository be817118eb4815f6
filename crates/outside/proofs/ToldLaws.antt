-- Laws of what is told, for callers of the traits.
use Rattle.std.proofs.Common.{◌≡◌, ℕ, List, ◌++◌, Option, Some, None, length, take, drop, ◌+◌, ◌-◌, refl, ap, sym, ◌∙◌}
use Rattle.std.proofs.Common.{append_assoc}
use Rattle.std.proofs.Math.Seq.{take-add}
use Rattle.std.proofs.lemmas.List.{take_rest}
use Rattle.outside.specs.Told.{appended}

-- bytes told in two parts are told as one
pub appended-appended : {T : Type 0} (told : Option (List T)) (first more : List T) →
    appended (appended told first) more ≡ appended told (first ++ more)
appended-appended None first more = refl
appended-appended (Some all) first more = ap Some (append_assoc all first more)

-- the first of some bytes were added, and then the first of the rest
pub appended-take : {T : Type 0} (told : Option (List T)) (n m : ℕ) (bytes : List T)
    → appended (appended told (take n bytes)) (take m (drop n bytes)) ≡ appended told (take (n + m) bytes)
appended-take told n m bytes = appended-appended told (take n bytes) (take m (drop n bytes))
    ∙ ap (appended told) (sym (take-add n m bytes))

-- after the first n bytes a sink took m of the rest
pub sent_more : {T : Type 0} (first before now : Option (List T)) (n m : ℕ) (bytes : List T)
    → before ≡ appended first (take n bytes) → now ≡ appended before (take m (take (length bytes - n) (drop n bytes)))
    → now ≡ appended first (take (n + m) bytes)
sent_more first before now n m bytes sofar more =
    (rw (take_rest bytes n, sofar) at more) ∙ appended-take first n m bytes
