use Rattle.std.proofs.Common.{List, Option, ap, ◌∙◌, subst}
use Rattle.outside.specs.declared.files.FileEntry.{FileEntry}
use Rattle.ruby_types.specs.declared.request.Reply.{Reply}
use Rattle.load_rules.specs.FirstReply.{no_controller_text}
use Rattle.load_rules.specs.Readings.{IsFoundReply}
use Rattle.load_rules.proofs.Readable.{found_reply, no_reply}
use Rattle.load_rules.proofs.first.first_reply.Goals as goal

pub returns-in-Some-clause-reply : goal.returns-in-Some-clause-reply
returns-in-Some-clause-reply c =
    let F : List FileEntry → Type 0 = λ files. IsFoundReply files c.in_ok-asked.asked c.in_ok-reply.field-0 in
    let R : Option Reply → Type 0 = λ reply. IsFoundReply c.args.snapshot.now.files c.in_ok-asked.asked reply in
    found_reply _ _ _ c.in_ok-asked.asked c.in-Some.reply c.in_ok-asked.ensures
    (subst R c.in-Some.is (subst F c.as_slice.ensures c.in_ok-reply.ensures.reply))

pub returns-clause-reply : goal.returns-clause-reply
returns-clause-reply c =
    let F : List FileEntry → Type 0 = λ files. IsFoundReply files c.in_ok-asked.asked c.in_ok-reply.field-0 in
    let R : Option Reply → Type 0 = λ reply. IsFoundReply c.args.snapshot.now.files c.in_ok-asked.asked reply in
    no_reply _ _ _ c.in_ok-asked.asked c.in_ok-body-in-None.body c.in_ok-asked.ensures
    (subst R c.in-None.is (subst F c.as_slice.ensures c.in_ok-reply.ensures.reply)) (c.in_ok-body-in-None.ensures
    ∙ ap no_controller_text c.as_bytes.ensures)
