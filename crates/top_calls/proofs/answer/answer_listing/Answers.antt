use Rattle.std.proofs.Common.{List, ℕ, sym, ◌∙◌, subst}
use Rattle.tree_command.specs.Tree.{IsTreeFault}
use Rattle.tree_command.specs.declared.fault.ListingFault.{ListingFault}
use Rattle.tree_command.specs.declared.fault.ListingFault.TheVariants as fault
use Rattle.top_calls.specs.Output.{TreeAnswer, lists, refuses}
use Rattle.top_calls.specs.declared.outcome.Outcome.TheVariants.{Done, Refused}
use Rattle.top_calls.proofs.answer.answer_listing.Goals as goal

pub returns-in_ok-from_vec-in-Ok : goal.returns-in_ok-from_vec-in-Ok
returns-in_ok-from_vec-in-Ok c =
    let Q : List ℕ → Type 0 = λ bytes. TreeAnswer c.args.snapshot.now.files bytes Done in
    subst Q (sym c.in_ok-from_vec-in-Ok.ensures) (lists c.in-Ok.bytes.items c.in-Ok.ensures.listing)

pub returns-in_ok-from_vec-in-Err-Refused : goal.returns-in_ok-from_vec-in-Err-Refused
returns-in_ok-from_vec-in-Err-Refused c =
    let P : ListingFault → Type 0 = IsTreeFault c.args.snapshot.now.files in
    let refused : P (fault.Refused c.in-Err-Refused.refusal) =
    subst P c.in-Err-Refused.field-0-is c.in-Err-Refused.ensures.fault in
    let Q : List ℕ → Type 0 = λ bytes. TreeAnswer c.args.snapshot.now.files bytes Refused in
    subst Q (sym (c.in_ok-from_vec-in-Err-Refused.ensures ∙ c.in_ok-line-in-Err-Refused.ensures))
    (refuses c.in-Err-Refused.refusal refused)
