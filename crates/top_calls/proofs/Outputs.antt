-- How an answer's output was written.
use Rattle.std.proofs.Common.{◌≡◌, inl, inr, ℕ, List, [], Option, Some, None, IfSome, Result, Ok, Err, Bool}
use Rattle.std.proofs.Common.{IfOk}
use Rattle.std.proofs.Common.{true, false, ◌==◌, if◌then◌else◌, append-nil, refl, sym, ap, subst}
use Rattle.outside.specs.Faults.{Counts}
use Rattle.outside.specs.Told.{appended}
use Rattle.outside.specs.declared.files.FileEntry.{FileEntry}
use Rattle.ruby_types.specs.declared.request.Reply.{Reply}
use Rattle.http_front_response.specs.Response.{HasReason}
use Rattle.load_rules.specs.FirstReply.{FirstReply, no_controller, no_tree, no_action, answers as answers_text}
use Rattle.command_words.specs.Words.{IsCommandLine}
use Rattle.top_calls.specs.Output.{code_of, Output, faulty_words, other_command, other_target, answers, tells, WritesOn}
use Rattle.top_calls.specs.Output.{too_large, other_file, replies, lists, refuses, Writes}
use Rattle.top_calls.specs.Output.{WritesOne, not_built_line, IsOtherCommand}
use Rattle.top_calls.specs.Answers.{Asks, QuestionOutput, IsReached, IsAfterReading, WritesAnswer}
use Rattle.top_calls.specs.declared.answer.Answer.{Answer}
use Rattle.top_calls.specs.declared.answer.Question.{Question}
use Rattle.top_calls.specs.declared.answer.Question.TheVariants as question
use Rattle.top_calls.specs.declared.outcome.Outcome.{Outcome}
use Rattle.top_calls.specs.declared.outcome.Outcome.TheVariants.{Done, Negative, FaultyWords, FilesUnread, WriteFault}
use Rattle.top_calls.specs.declared.outcome.Outcome.TheVariants.{Memory, Refused, NotBuilt}
use Rattle.top_calls.specs.declared.outcome.Unbuilt.{Unbuilt}
use Rattle.top_calls.specs.declared.outcome.Unbuilt.TheVariants as unbuilt

-- the statuses that a reply has
pub known_status : (files : List FileEntry) (controller action : List ℕ) (reply : Reply) →
    FirstReply files controller action reply → HasReason reply.status
known_status files controller action reply (no_controller none) = inr (inr (inl refl))
known_status files controller action reply (no_tree file at why is fault) =
    inr (inr (inr (inr (inr (inr (inl refl))))))
known_status files controller action reply (no_action file parts is text other) = inr (inr (inl refl))
known_status files controller action reply (answers_text file parts is text same) = inl refl

reply_is_reached : (done : Bool) → IsReached (if done then Done else Negative)
reply_is_reached true = tt
reply_is_reached false = tt

-- an answer's end is one that answers reach
pub answer_is_reached : (question : Question) (files : List FileEntry) (output : List ℕ) (own : Outcome) →
    QuestionOutput question files output own → IsReached own
answer_is_reached (question.Reply target) files output own (too_large large) = tt
answer_is_reached (question.Reply target) files output own (other_file path unread) = tt
answer_is_reached (question.Reply target) files output own (replies reply within readable first) =
    reply_is_reached (reply.status == 200)
answer_is_reached question.Listing files output own (lists bytes listing) = tt
answer_is_reached question.Listing files output own (refuses refusal refused) = tt

-- what is reached comes after the files are read, and is no fault of a write
pub reached_after_reading : (outcome : Outcome) → IsReached outcome → IsAfterReading outcome
reached_after_reading Done reached = tt
reached_after_reading Negative reached = tt
reached_after_reading FaultyWords reached = absurd reached
reached_after_reading FilesUnread reached = absurd reached
reached_after_reading WriteFault reached = absurd reached
reached_after_reading Memory reached = absurd reached
reached_after_reading Refused reached = tt
reached_after_reading (NotBuilt what) reached = tt

-- an end that is an answer's own counts no fault of a write, as the sink counted none
pub no_write_fault : (outcome : Outcome) (before now : ℕ) → IsReached outcome → now ≡ before →
    Counts (code_of outcome == 4) before now
no_write_fault Done before now reached same = same
no_write_fault Negative before now reached same = same
no_write_fault FaultyWords before now reached same = absurd reached
no_write_fault FilesUnread before now reached same = absurd reached
no_write_fault WriteFault before now reached same = absurd reached
no_write_fault Memory before now reached same = absurd reached
no_write_fault Refused before now reached same = same
no_write_fault (NotBuilt what) before now reached same = same

-- what was reached was written whole
pub written_whole : (output : List ℕ) (own : Outcome) (before now : Option (List ℕ)) → IsReached own →
    now ≡ appended before output → Writes output own own before now
written_whole output Done before now reached is = (refl, is)
written_whole output Negative before now reached is = (refl, is)
written_whole output FaultyWords before now reached is = absurd reached
written_whole output FilesUnread before now reached is = absurd reached
written_whole output WriteFault before now reached is = absurd reached
written_whole output Memory before now reached is = absurd reached
written_whole output Refused before now reached is = (refl, is)
written_whole output (NotBuilt what) before now reached is = (refl, is)

-- the tree's count stood still
pub no_tree_fault : (outcome : Outcome) (before now : ℕ) → IsAfterReading outcome → now ≡ before →
    Counts (code_of outcome == 3) before now
no_tree_fault Done before now own same = same
no_tree_fault Negative before now own same = same
no_tree_fault FaultyWords before now own same = absurd own
no_tree_fault FilesUnread before now own same = absurd own
no_tree_fault WriteFault before now own same = same
no_tree_fault Memory before now own same = same
no_tree_fault Refused before now own same = same
no_tree_fault (NotBuilt what) before now own same = same

-- an output that was written is one output
one_written : (Is : List ℕ → Outcome → Type 0) (output : List ℕ) (own outcome : Outcome)
    (before now : Option (List ℕ)) → Is output own → Writes output own outcome before now →
    WritesOne Is outcome before now
one_written Is output own Done before now p w = (output, own, p, w)
one_written Is output own Negative before now p w = (output, own, p, w)
one_written Is output own FaultyWords before now p w = (output, own, p, w)
one_written Is output own FilesUnread before now p w = (output, own, p, w)
one_written Is output own WriteFault before now p w = (output, own, p, w)
one_written Is output own Memory before now p w = w
one_written Is output own Refused before now p w = (output, own, p, w)
one_written Is output own (NotBuilt what) before now p w = (output, own, p, w)

-- an output on whichever files the tree holds
on_any : (Is : List FileEntry → List ℕ → Outcome → Type 0) (held : Option (List FileEntry)) (outcome : Outcome)
    (before now : Option (List ℕ))
    → IsAfterReading outcome →
    ((files : List FileEntry) → held ≡ Some files → WritesOne (Is files) outcome before now) →
    (outcome ≡ Memory → now ≡ before) → WritesOn held Is outcome before now
on_any Is None Done before now own w m = tt
on_any Is None Negative before now own w m = tt
on_any Is None FaultyWords before now own w m = absurd own
on_any Is None FilesUnread before now own w m = absurd own
on_any Is None WriteFault before now own w m = tt
on_any Is None Memory before now own w m = m refl
on_any Is None Refused before now own w m = tt
on_any Is None (NotBuilt what) before now own w m = tt
on_any Is (Some all) Done before now own w m = w all refl
on_any Is (Some all) Negative before now own w m = w all refl
on_any Is (Some all) FaultyWords before now own w m = absurd own
on_any Is (Some all) FilesUnread before now own w m = absurd own
on_any Is (Some all) WriteFault before now own w m = w all refl
on_any Is (Some all) Memory before now own w m = m refl
on_any Is (Some all) Refused before now own w m = w all refl
on_any Is (Some all) (NotBuilt what) before now own w m = w all refl

nothing_without_memory : (output : List ℕ) (own outcome : Outcome) (before now : Option (List ℕ)) →
    Writes output own outcome before now → outcome ≡ Memory → now ≡ before
nothing_without_memory output own outcome before now w e =
    let P : Outcome → Type 0 = λ s. Writes output own s before now in subst P e w

-- an answer on the files that the tree holds
pub answer_written : {E : Type 0} (Is : List FileEntry → List ℕ → Outcome → Type 0) (held : Option (List FileEntry))
    (answer : Result Answer E) (outcome : Outcome) (before now : Option (List ℕ)) → IsAfterReading outcome →
    ((files : List FileEntry) (given : Answer) → held ≡ Some files → answer ≡ Ok given →
    Is files given.bytes given.outcome) →
    WritesAnswer answer outcome before now → WritesOn held Is outcome before now
answer_written Is held (Ok given) outcome before now own is w =
    on_any Is held outcome before now own
    (λ files e. one_written (Is files) given.bytes given.outcome outcome before now (is files given e refl) w)
    (nothing_without_memory given.bytes given.outcome outcome before now w)
answer_written Is held (Err error) outcome before now own is w =
    let P : Outcome → Type 0 = λ s. WritesOn held Is s before now in subst P (sym w.0) w.1

-- an output of which more holds
weaker_one : (Is Js : List ℕ → Outcome → Type 0) (outcome : Outcome) (before now : Option (List ℕ)) →
    ((output : List ℕ) (own : Outcome) → Is output own → Js output own)
    → WritesOne Is outcome before now → WritesOne Js outcome before now
weaker_one Is Js Done before now to w = (w.0, w.1, to w.0 w.1 w.2, w.3)
weaker_one Is Js Negative before now to w = (w.0, w.1, to w.0 w.1 w.2, w.3)
weaker_one Is Js FaultyWords before now to w = (w.0, w.1, to w.0 w.1 w.2, w.3)
weaker_one Is Js FilesUnread before now to w = (w.0, w.1, to w.0 w.1 w.2, w.3)
weaker_one Is Js WriteFault before now to w = (w.0, w.1, to w.0 w.1 w.2, w.3)
weaker_one Is Js Memory before now to w = w
weaker_one Is Js Refused before now to w = (w.0, w.1, to w.0 w.1 w.2, w.3)
weaker_one Is Js (NotBuilt what) before now to w = (w.0, w.1, to w.0 w.1 w.2, w.3)

weaker_some : (Is Js : List FileEntry → List ℕ → Outcome → Type 0) (held : Option (List FileEntry))
    (outcome : Outcome) (before now : Option (List ℕ))
    → ((files : List FileEntry) (output : List ℕ) (own : Outcome) → Is files output own → Js files output own)
    → IfSome held (λ files. WritesOne (Is files) outcome before now) →
    IfSome held (λ files. WritesOne (Js files) outcome before now)
weaker_some Is Js None outcome before now to w = tt
weaker_some Is Js (Some files) outcome before now to w =
    weaker_one (Is files) (Js files) outcome before now (to files) w

weaker_on : (Is Js : List FileEntry → List ℕ → Outcome → Type 0) (held : Option (List FileEntry)) (outcome : Outcome)
    (before now : Option (List ℕ))
    → ((files : List FileEntry) (output : List ℕ) (own : Outcome) → Is files output own → Js files output own)
    → WritesOn held Is outcome before now → WritesOn held Js outcome before now
weaker_on Is Js held Done before now to w = weaker_some Is Js held Done before now to w
weaker_on Is Js held Negative before now to w = weaker_some Is Js held Negative before now to w
weaker_on Is Js held FaultyWords before now to w = weaker_some Is Js held FaultyWords before now to w
weaker_on Is Js held FilesUnread before now to w = w
weaker_on Is Js held WriteFault before now to w = weaker_some Is Js held WriteFault before now to w
weaker_on Is Js held Memory before now to w = w
weaker_on Is Js held Refused before now to w = weaker_some Is Js held Refused before now to w
weaker_on Is Js held (NotBuilt what) before now to w = weaker_some Is Js held (NotBuilt what) before now to w

-- the output of what the words ask is their output
pub question_written : (words : List (List ℕ)) (question : Question) (held : Option (List FileEntry))
    (outcome : Outcome) (before now : Option (List ℕ)) → Asks words (Ok question)
    → WritesOn held (QuestionOutput question) outcome before now → WritesOn held (Output words) outcome before now
question_written words (question.Reply target) held outcome before now asks w =
    weaker_on (QuestionOutput (question.Reply target)) (Output words) held outcome before now
    (λ files output own is. answers target.controller.now target.action.now output own asks is) w
question_written words question.Listing held outcome before now asks w =
    weaker_on (QuestionOutput question.Listing) (Output words) held outcome before now
    (λ files output own is. tells output own asks is) w

-- what is not built yet has its line as the output of the words
pub unbuilt_output : (words : List (List ℕ)) (files : List FileEntry) (what : Unbuilt) (output : List ℕ)
    (own : Outcome) → Asks words (Err what) → output ≡ not_built_line → own ≡ NotBuilt what →
    Output words files output own
unbuilt_output words files unbuilt.Command output own asks is ends =
    let P : Outcome → Type 0 = Output words files output in
    let Q : List ℕ → Type 0 = λ o. Output words files o (NotBuilt unbuilt.Command) in
    subst P (sym ends) (subst Q (sym is) (other_command asks.0 asks.1))
unbuilt_output words files unbuilt.Target output own asks is ends =
    let P : Outcome → Type 0 = Output words files output in
    let Q : List ℕ → Type 0 = λ o. Output words files o (NotBuilt unbuilt.Target) in
    subst P (sym ends) (subst Q (sym is) (other_target asks.0 asks.1))
unbuilt_output words files unbuilt.Size output own asks is ends = absurd asks
unbuilt_output words files (unbuilt.File path) output own asks is ends = absurd asks

appended_nothing : (before : Option (List ℕ)) → before ≡ appended before []
appended_nothing None = refl
appended_nothing (Some all) = ap Some (sym (append-nil all))

-- faulty words write nothing
pub faulty_words_written : (words : List (List ℕ)) (held : Option (List FileEntry)) (before : Option (List ℕ)) →
    ¬ (IsCommandLine words) → WritesOn held (Output words) FaultyWords before before
faulty_words_written words None before faulty = tt
faulty_words_written words (Some all) before faulty =
    ([], FaultyWords, faulty_words faulty, (refl, appended_nothing before))

-- ---- answers

-- an answer that has this output and this end
pub answer_with : {E : Type 0} (Is : List ℕ → Outcome → Type 0) (output : List ℕ) (own : Outcome)
    (given : Result Answer E) → Is output own →
    IfOk given (λ answer. (answer.bytes ≡ output) × (answer.outcome ≡ own)) →
    IfOk given (λ answer. Is answer.bytes answer.outcome)
answer_with Is output own (Ok answer) is same =
    subst (Is answer.bytes) (sym same.1) (subst (λ bytes. Is bytes own) (sym same.0) is)
answer_with Is output own (Err error) is same = tt

-- what the words ask is built
pub asked_is_built : (words : List (List ℕ)) (question : Question) → Asks words (Ok question) →
    IsOtherCommand words → ⊥
asked_is_built words (question.Reply target) asks other = other.1 target.controller.now target.action.now asks
asked_is_built words question.Listing asks other = other.2 asks
