-- When a command answers that something is not built yet.
use Rattle.std.proofs.Common.{◌≡◌, ◌⊎◌, inl, inr, ℕ, List, Option, Some, None, IfSome, Bool, true, false, ◌==◌}
use Rattle.std.proofs.Common.{if◌then◌else◌, All, refl, sym, ap, ◌∙◌, subst}
use Rattle.outside.specs.declared.files.FileEntry.{FileEntry}
use Rattle.load_rules.specs.FirstReply.{IsReadable}
use Rattle.command_words.specs.Words.{IsCommandLine}
use Rattle.tree_report.specs.Limits.{IsWithinLimits}
use Rattle.tree_report.specs.declared.refusal.Refusal.{Refusal}
use Rattle.tree_command.specs.Tree.{IsRefused}
use Rattle.tree_command.proofs.OneLaws.{never_both}
use Rattle.top_calls.proofs.Commands.{get_is_no_tree, tree_is_command}
use Rattle.top_calls.specs.Output.{code_of, IsFirstGet, IsOtherApplication, IsNotBuilt, IsFault, GetAnswer}
use Rattle.top_calls.specs.Output.{too_large, other_file, replies, Output, faulty_words, other_command, answers}
use Rattle.top_calls.specs.Output.{other_target, tells, TreeAnswer, lists, refuses, IsTreeRefused, WritesOn}
use Rattle.command_words.specs.declared.words.CommandName.TheVariants.{Get}
use Rattle.top_calls.specs.declared.outcome.Outcome.{Outcome}
use Rattle.top_calls.specs.declared.outcome.Outcome.TheVariants.{Done, Negative, FaultyWords, FilesUnread, WriteFault}
use Rattle.top_calls.specs.declared.outcome.Outcome.TheVariants.{Memory, Refused, NotBuilt}
use Rattle.top_calls.specs.declared.outcome.Unbuilt.TheVariants as unbuilt

-- a reply has another status
reply_is_built : (done : Bool) → code_of (if done then Done else Negative) ≡ 11 → ⊥
reply_is_built true e = cc
reply_is_built false e = cc

-- an answer that isn't built is on another application
answer_is_not_built : (files : List FileEntry) (controller action output : List ℕ) (own : Outcome) →
    GetAnswer files controller action output own → code_of own ≡ 11 → IsOtherApplication files
answer_is_not_built files controller action output own (too_large large) e = inl large
answer_is_not_built files controller action output own (other_file path (k, file, here, is, unread)) e =
    inr (k, file, here, is, unread.1)
answer_is_not_built files controller action output own (replies reply within readable first) e =
    absurd (reply_is_built (reply.status == 200) e)

tree_answer_is_built : (files : List FileEntry) (output : List ℕ) (own : Outcome) → TreeAnswer files output own →
    code_of own ≡ 11 → ⊥
tree_answer_is_built files output own (lists bytes listing) e = let f : ◌≡◌ {A = ℕ} 0 11 = e in cc
tree_answer_is_built files output own (refuses refusal refused) e = let f : ◌≡◌ {A = ℕ} 6 11 = e in cc

output_is_not_built : (words : List (List ℕ)) (files : List FileEntry) (output : List ℕ) (own : Outcome) →
    Output words files output own → code_of own ≡ 11 → IsNotBuilt words files
output_is_not_built words files output own (faulty_words faulty) e = absurd (let f : 2 ≡ 11 = e in cc)
output_is_not_built words files output own (other_command other unlike) e = inl other
output_is_not_built words files output own (other_target other get) e = inl other
output_is_not_built words files output own (answers controller action out status get answer) e =
    inr (controller, action, get, answer_is_not_built files controller action out status answer e)
output_is_not_built words files output own (tells out status is answer) e =
    absurd (tree_answer_is_built files out status answer e)

-- where the exit status is 11, what was asked for isn't built yet
pub not_built_is : (words : List (List ℕ)) (held : Option (List FileEntry)) (status : Outcome)
    (before now : Option (List ℕ)) → WritesOn held (Output words) status before now
    → IfSome held (λ files. code_of status ≡ 11 → IsNotBuilt words files)
not_built_is words None status before now w = tt
not_built_is words (Some files) Done before now w = λ e. absurd (let f : 0 ≡ 11 = e in cc)
not_built_is words (Some files) Negative before now w = λ e. absurd (let f : 1 ≡ 11 = e in cc)
not_built_is words (Some files) FaultyWords before now w = λ e. absurd (let f : 2 ≡ 11 = e in cc)
not_built_is words (Some files) FilesUnread before now w = λ e. absurd (let f : 3 ≡ 11 = e in cc)
not_built_is words (Some files) WriteFault before now w = λ e. absurd (let f : 4 ≡ 11 = e in cc)
not_built_is words (Some files) Memory before now w = λ e. absurd (let f : 5 ≡ 11 = e in cc)
not_built_is words (Some files) Refused before now w = λ e. absurd (let f : 6 ≡ 11 = e in cc)
not_built_is words (Some files) (NotBuilt what) before now w = λ e.
    output_is_not_built words files w.0 w.1 w.2 (ap code_of (sym w.3.0))

get_is_command_line : (words : List (List ℕ)) (controller action : List ℕ) → IsFirstGet words controller action →
    IsCommandLine words
get_is_command_line words controller action get = subst IsCommandLine (sym get.1) (Get, (refl, get.2))

readable_is_no_other : (files : List FileEntry) → IsWithinLimits files → All IsReadable files →
    ¬ (IsOtherApplication files)
readable_is_no_other files within readable (inl large) = large within
readable_is_no_other files within readable (inr (k, file, here, is, unread)) =
    unread (subst IsReadable is (readable k file here))

-- what is not built has that status
not_built_status : (words : List (List ℕ)) (files : List FileEntry) (output : List ℕ) (own : Outcome) →
    IsNotBuilt words files → Output words files output own → code_of own ≡ 11
not_built_status words files output own (inl other) (faulty_words faulty) = absurd (faulty other.0)
not_built_status words files output own (inr (controller, action, get, other)) (faulty_words faulty) =
    absurd (faulty (get_is_command_line words controller action get))
not_built_status words files output own n (other_command other unlike) = refl
not_built_status words files output own n (other_target other get) = refl
not_built_status words files output own n (answers controller action out status get (too_large large)) = refl
not_built_status words files output own n (answers controller action out status get (other_file path unread)) = refl
not_built_status words files output own (inl other)
    (answers controller action out status get (replies reply within readable first)) =
    absurd (other.1 controller action get)
not_built_status words files output own (inl other) (tells out status is answer) = absurd (other.2 is)
not_built_status words files output own (inr (c, a, g, other)) (tells out status is answer) =
    absurd (get_is_no_tree words c a g is)
not_built_status words files output own (inr (c, a, g, other))
    (answers controller action out status get (replies reply within readable first)) =
    absurd (readable_is_no_other files within readable other)

-- what isn't built yet ends with status 11, unless with a fault of the tree, of the sink or of memory
pub is_not_built : (words : List (List ℕ)) (held : Option (List FileEntry)) (status : Outcome)
    (before now : Option (List ℕ)) → WritesOn held (Output words) status before now
    → IfSome held (λ files. IsNotBuilt words files → (code_of status ≡ 11) ⊎ IsFault (code_of status))
is_not_built words None status before now w = tt
is_not_built words (Some files) Done before now w = λ n.
    inl (ap code_of w.3.0 ∙ not_built_status words files w.0 w.1 n w.2)
is_not_built words (Some files) Negative before now w = λ n.
    inl (ap code_of w.3.0 ∙ not_built_status words files w.0 w.1 n w.2)
is_not_built words (Some files) FaultyWords before now w = λ n.
    inl (ap code_of w.3.0 ∙ not_built_status words files w.0 w.1 n w.2)
is_not_built words (Some files) FilesUnread before now w = λ n. inr (inl refl)
is_not_built words (Some files) WriteFault before now w = λ n. inr (inr (inl refl))
is_not_built words (Some files) Memory before now w = λ n. inr (inr (inr refl))
is_not_built words (Some files) Refused before now w = λ n.
    inl (ap code_of w.3.0 ∙ not_built_status words files w.0 w.1 n w.2)
is_not_built words (Some files) (NotBuilt what) before now w = λ n. inl refl

-- ---- when an application is refused

-- a reply has another status
reply_is_given : (done : Bool) → ◌≡◌ {A = Outcome} (if done then Done else Negative) Refused → ⊥
reply_is_given true e = cc
reply_is_given false e = cc

answer_is_given : (files : List FileEntry) (controller action output : List ℕ) (own : Outcome) →
    GetAnswer files controller action output own → own ≡ Refused → ⊥
answer_is_given files controller action output own (too_large large) e =
    let f : ◌≡◌ {A = Outcome} (NotBuilt unbuilt.Size) Refused = e in cc
answer_is_given files controller action output own (other_file path unread) e =
    let f : ◌≡◌ {A = Outcome} (NotBuilt (unbuilt.File path)) Refused = e in cc
answer_is_given files controller action output own (replies reply within readable first) e =
    reply_is_given (reply.status == 200) e

tree_answer_is_refused : (files : List FileEntry) (output : List ℕ) (own : Outcome) → TreeAnswer files output own →
    own ≡ Refused → (refusal : Refusal) × IsRefused files refusal
tree_answer_is_refused files output own (lists bytes listing) e =
    absurd (let f : ◌≡◌ {A = Outcome} Done Refused = e in cc)
tree_answer_is_refused files output own (refuses refusal refused) e = (refusal, refused)

output_is_refused : (words : List (List ℕ)) (files : List FileEntry) (output : List ℕ) (own : Outcome) →
    Output words files output own → own ≡ Refused → IsTreeRefused words files
output_is_refused words files output own (faulty_words faulty) e =
    absurd (let f : ◌≡◌ {A = Outcome} FaultyWords Refused = e in cc)
output_is_refused words files output own (other_command other unlike) e =
    absurd (let f : ◌≡◌ {A = Outcome} (NotBuilt unbuilt.Command) Refused = e in cc)
output_is_refused words files output own (other_target other get) e =
    absurd (let f : ◌≡◌ {A = Outcome} (NotBuilt unbuilt.Target) Refused = e in cc)
output_is_refused words files output own (answers controller action out status get answer) e =
    absurd (answer_is_given files controller action out status answer e)
output_is_refused words files output own (tells out status is answer) e =
    (is, tree_answer_is_refused files out status answer e)

-- where the exit status is 6, `tree` was asked for and the application is refused
pub refused_is : (words : List (List ℕ)) (held : Option (List FileEntry)) (status : Outcome)
    (before now : Option (List ℕ)) → WritesOn held (Output words) status before now
    → IfSome held (λ files. code_of status ≡ 6 → IsTreeRefused words files)
refused_is words None status before now w = tt
refused_is words (Some files) Done before now w = λ e. absurd (let f : 0 ≡ 6 = e in cc)
refused_is words (Some files) Negative before now w = λ e. absurd (let f : 1 ≡ 6 = e in cc)
refused_is words (Some files) FaultyWords before now w = λ e. absurd (let f : 2 ≡ 6 = e in cc)
refused_is words (Some files) FilesUnread before now w = λ e. absurd (let f : 3 ≡ 6 = e in cc)
refused_is words (Some files) WriteFault before now w = λ e. absurd (let f : 4 ≡ 6 = e in cc)
refused_is words (Some files) Memory before now w = λ e. absurd (let f : 5 ≡ 6 = e in cc)
refused_is words (Some files) Refused before now w = λ e. output_is_refused words files w.0 w.1 w.2 (sym w.3.0)
refused_is words (Some files) (NotBuilt what) before now w = λ e. absurd (let f : 11 ≡ 6 = e in cc)

tree_answer_status : (files : List FileEntry) (output : List ℕ) (own : Outcome) → (refusal : Refusal)
    × IsRefused files refusal → TreeAnswer files output own → own ≡ Refused
tree_answer_status files output own r (lists bytes listing) = absurd (never_both files bytes r.0 listing r.1)
tree_answer_status files output own r (refuses refusal refused) = refl

-- an application that `tree` refuses has that status
refused_status : (words : List (List ℕ)) (files : List FileEntry) (output : List ℕ) (own : Outcome) →
    IsTreeRefused words files → Output words files output own → own ≡ Refused
refused_status words files output own r (faulty_words faulty) = absurd (faulty (tree_is_command words r.0))
refused_status words files output own r (other_command other unlike) = absurd (other.2 r.0)
refused_status words files output own r (other_target other get) = absurd (other.2 r.0)
refused_status words files output own r (answers controller action out status get answer) =
    absurd (get_is_no_tree words controller action get r.0)
refused_status words files output own r (tells out status is answer) = tree_answer_status files out status r.1 answer

-- `tree` on a refused application ends with status 6, unless with a fault of the tree, the sink or memory
pub is_refused : (words : List (List ℕ)) (held : Option (List FileEntry)) (status : Outcome)
    (before now : Option (List ℕ)) → WritesOn held (Output words) status before now
    → IfSome held (λ files. IsTreeRefused words files → (code_of status ≡ 6) ⊎ IsFault (code_of status))
is_refused words None status before now w = tt
is_refused words (Some files) Done before now w = λ r.
    inl (ap code_of (w.3.0 ∙ refused_status words files w.0 w.1 r w.2))
is_refused words (Some files) Negative before now w = λ r.
    inl (ap code_of (w.3.0 ∙ refused_status words files w.0 w.1 r w.2))
is_refused words (Some files) FaultyWords before now w = λ r.
    inl (ap code_of (w.3.0 ∙ refused_status words files w.0 w.1 r w.2))
is_refused words (Some files) FilesUnread before now w = λ r. inr (inl refl)
is_refused words (Some files) WriteFault before now w = λ r. inr (inr (inl refl))
is_refused words (Some files) Memory before now w = λ r. inr (inr (inr refl))
is_refused words (Some files) Refused before now w = λ r. inl refl
is_refused words (Some files) (NotBuilt what) before now w = λ r.
    inl (ap code_of (w.3.0 ∙ refused_status words files w.0 w.1 r w.2))
