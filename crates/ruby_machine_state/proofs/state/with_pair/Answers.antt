use Rattle.std.proofs.Common.{◌≡◌, Some, get_or, sym, subst}
use Rattle.std.specs.Prelude.{IfOk, slice_get}
use Rattle.std.proofs.lemmas.Option.{slice_get-get_or}
use Rattle.ruby_types.specs.declared.value.Value.TheVariants.{Nil}
use Rattle.ruby_machine_state.proofs.state.with_pair.Goals as goal

pub returns-in-Some : goal.returns-in-Some
returns-in-Some c =
    let pair = get_or c.args.variables c.in-Some.place (Nil, Nil) in
    let so = rw c.as_slice.ensures at c.in-Some.ensures in
    let is : slice_get c.args.variables c.in-Some.place ≡ Some pair =
    slice_get-get_or c.args.variables c.in-Some.place (Nil, Nil) so.0 in
    subst (λ x. IfOk c.replaced.result (λ pairs. pairs ≡ x)) (sym (so.1 pair c.args.value is))
    ((rw c.as_slice-in-Some.ensures at c.replaced.ensures) pair is)
