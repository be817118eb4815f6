use Rattle.std.proofs.Common.{◌≡◌, List, Some, false, IfOk, subst}
use Rattle.outside.specs.declared.files.FileEntry.{FileEntry}
use Rattle.http_front_response.specs.Response.{response_bytes}
use Rattle.load_rules.specs.FirstReply.{IsRefusalOf}
use Rattle.load_rules.specs.declared.refusal.FirstRefusal.{FirstRefusal}
use Rattle.load_rules.specs.declared.refusal.FirstRefusal.TheVariants as refusal
use Rattle.top_calls.specs.Output.{GetAnswer, replies, other_file, generation_of, outcome_of}
use Rattle.top_calls.specs.declared.answer.Answer.{Answer}
use Rattle.top_calls.proofs.Outputs.{answer_with}
use Rattle.top_calls.proofs.answer.answer_within.Goals as goal

pub returns-in-Ok : goal.returns-in-Ok
returns-in-Ok c =
    let P : List FileEntry → Type 0 = λ files. IfOk c.replied.result (λ (answer : Answer).
    (answer.bytes ≡ response_bytes c.in-Ok.reply (Some (generation_of files)) false false)
    × (answer.outcome ≡ outcome_of c.in-Ok.reply)) in
    answer_with
    (GetAnswer c.args.snapshot.now.files c.args.target.now.controller.now c.args.target.now.action.now) _ _
    c.replied.result (replies c.in-Ok.reply c.requires c.in-Ok.ensures.readable c.in-Ok.ensures.reply)
    (subst P c.as_slice.ensures c.replied.ensures)

pub returns-in-Err-NotBuilt : goal.returns-in-Err-NotBuilt
returns-in-Err-NotBuilt c =
    let P : FirstRefusal → Type 0 = IsRefusalOf c.args.snapshot.now.files in
    let refused : P (refusal.NotBuilt c.in-Err-NotBuilt.path) =
    subst P c.in-Err-NotBuilt.field-0-is c.in-Err-NotBuilt.ensures.not_built in
    answer_with
    (GetAnswer c.args.snapshot.now.files c.args.target.now.controller.now c.args.target.now.action.now) _ _
    c.not_built.result (other_file c.in-Err-NotBuilt.path refused) c.not_built.ensures
