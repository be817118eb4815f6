-- Two tasks are the same exactly where they are equal.
use Rattle.std.proofs.Common.{◌≡◌, true, refl, ap, eq-eqb, eqb-true}
use Rattle.std.proofs.lemmas.Bool.{false≢true, and_from, and_parts}
use base.Stored.{Gv, gnil, gnum, gcons}
use Rattle.ruby_types.specs.declared.request.Task.{Task}
use Rattle.ruby_types.specs.contracts.request.Task as task
use Rattle.task_keys.specs.Same.{same_code, same_task}

equal_codes : (a b : Gv) → same_code a b ≡ true → a ≡ b
equal_codes gnil gnil h = refl
equal_codes gnil (gnum n) h = absurd (false≢true h)
equal_codes gnil (gcons a b) h = absurd (false≢true h)
equal_codes (gnum m) gnil h = absurd (false≢true h)
equal_codes (gnum m) (gnum n) h = ap gnum (eqb-true m n h)
equal_codes (gnum m) (gcons a b) h = absurd (false≢true h)
equal_codes (gcons a b) gnil h = absurd (false≢true h)
equal_codes (gcons a b) (gnum n) h = absurd (false≢true h)
equal_codes (gcons a b) (gcons c d) h =
    let parts = and_parts (same_code a c) (same_code b d) h in
    let first : a ≡ c = equal_codes a c parts.0 in
    let second : b ≡ d = equal_codes b d parts.1 in
    cc

code_itself : (a : Gv) → same_code a a ≡ true
code_itself gnil = refl
code_itself (gnum n) = eq-eqb n n refl
code_itself (gcons a b) = and_from (same_code a a) (same_code b b) (code_itself a) (code_itself b)

-- tasks that are the same are equal
pub same_is : (a b : Task) → same_task a b ≡ true → a ≡ b
same_is a b h = task.the_row.coded.inj a b (equal_codes _ _ h)

-- a task is the same as itself
pub same_self : (a : Task) → same_task a a ≡ true
same_self a = code_itself (task.the_row.coded.code a)
