use Rattle.std.proofs.Common.{◌≡◌, ℕ, ◌≤◌, List, [], ◌∷◌, length, refl, ◌∙◌, arith}
use Rattle.std.proofs.lemmas.Result.{IfOk-weaker}
use Rattle.ruby_runs.specs.declared.NoReply.{NoReply}
use Rattle.program_theory.specs.Replies.{no_reply_text}
use Rattle.load_replies.proofs.reply.no_reply_text.Goals as goal

-- what holds of each controller that has a segment
told_as : (controller : List (List ℕ)) (action : List ℕ) (end : NoReply) (text : List ℕ) → 1 ≤ length controller →
    ((segment : List ℕ) (segments : List (List ℕ)) → text ≡ no_reply_text (segment ∷ segments) action end) →
    text ≡ no_reply_text controller action end
told_as [] action end text some told = absurd (omega (arith, some))
told_as (segment ∷ segments) action end text some told = told segment segments

pub returns-in_ok-push_no_reply-in-len1-up : goal.returns-in_ok-push_no_reply-in-len1-up
returns-in_ok-push_no_reply-in-len1-up c =
    let controller = c.args.controller.now in
    let written = c.push_no_reply.new.written.items in
    let some : 1 ≤ length controller = rw c.as_slice.ensures at c.in-len1-up.len_at_least in
    IfOk-weaker c.from_vec.result (λ text. text ≡ written)
    (λ text. text ≡ no_reply_text controller c.args.action.now c.args.end.now)
    (λ text e. e ∙ told_as controller c.args.action.now c.args.end.now written some (λ segment segments.
    c.in_ok-push_no_reply-in-len1-up.ensures segment segments ∙ rw c.new-written.ensures.items refl))
    c.from_vec.ensures
