-- What a request is told by what its run ends with, and whether stamps are those of files.
use Rattle.std.proofs.Common.{◌≡◌, ◌↔◌, ◌∙◌, ℕ, Bool, List, true, ap, ap₂, refl, subst, sym}
use Rattle.std.specs.Prelude.{Result, Ok, Err, IfOk}
use Rattle.std.specs.Bool.{one_answer}
use Rattle.by_need.specs.Asking.{Computation, Ending, Error, Gives, Other, Value, answer_of, over}
use Rattle.by_need.specs.Rounds.{known}
use Rattle.outside.specs.Tree.{stamps_of}
use Rattle.outside.specs.declared.files.FileEntry.{FileEntry}
use Rattle.outside.specs.declared.files.Stamp.{Stamp}
use Rattle.by_need_answer.specs.Answers.{Answers}
use Rattle.by_need_answer.specs.declared.answer.Answered.{Answered}
use Rattle.by_need_answer.specs.declared.answer.Answered.TheVariants as answered
use Rattle.generation_runs.specs.Runs.{EndsAs, left_of}
use Rattle.program_application.specs.Applications.{application_of}
use Rattle.program_index.specs.Content.{Content}
use Rattle.program_index.specs.Program.{index_in, nodes_in}
use Rattle.program_requests.specs.Requests.{replying, request_run}
use Rattle.program_snapshots.proofs.StampLaws.{stamps_decide}
use Rattle.program_snapshots.specs.Stamps.{same_stamps}
use Rattle.program_theory.specs.Applications.{Application, meaning_in, rules_of}
use Rattle.ruby_machine.specs.Machines.{GoesTo, still}
use Rattle.ruby_machine.specs.declared.machine.Reached.{Reached}
use Rattle.ruby_machine.specs.declared.stage.Stage.{Stage}
use Rattle.program_places.specs.Places.{Index}
use Rattle.ruby_nodes.specs.Entries.{Entry}
use Rattle.ruby_machine.specs.declared.machine.Machine.{Machine}
use Rattle.ruby_types.specs.declared.request.Task.TheVariants as task
use Rattle.program_theory.specs.Replies.{reply_by}
use Rattle.ruby_runs.specs.Doing.{Meaning}
use Rattle.ruby_types.specs.declared.request.Reply.{Reply}
use Rattle.ruby_types.specs.declared.request.Request.{Request}
use Rattle.ruby_types.specs.declared.request.RubyError.{RubyError}
use Rattle.ruby_types.specs.declared.request.Task.{Task}
use Rattle.ruby_types.specs.declared.value.Value.{Value as RubyValue}
use Rattle.ruby_runs.specs.declared.NoReply.{NoReply}

-- an answer that holds exactly where stamps are those of files is their test
pub stamps_told : (stamps : List (List ℕ × Stamp)) (files : List FileEntry) (answer : Bool) →
    (answer ≡ true) ↔ (stamps ≡ stamps_of files) → answer ≡ same_stamps stamps files
stamps_told stamps files answer told = one_answer {P = stamps ≡ stamps_of files} answer (same_stamps stamps files) told
    (stamps_decide stamps files)

-- a run that ends replies by its end
reply_told : (app : Application) (q : Request) (before : Meaning) (end : Ending RubyValue RubyError NoReply)
    (reply : Reply) → before ≡ Gives end → reply ≡ reply_by app q (answer_of end) →
    replying app q before ≡ Gives reply
reply_told app q before end reply e r = subst (λ run. replying app q run ≡ Gives reply) (sym e) (ap Gives (sym r))

-- a run replies as what it ends with is replied to
pub ends_told : (app : Application) (q : Request) (found : Answered Task RubyValue RubyError NoReply) (reply : Reply) →
    ((run : Computation Task RubyValue RubyError NoReply) → Answers (rules_of app) run found →
    reply ≡ reply_by app q (over (known (rules_of app)) run).answer) →
    (before : Meaning) → EndsAs before found → replying app q before ≡ Gives reply
ends_told app q (answered.Done v) reply told before e =
    reply_told app q before (Value v) reply e (told (Gives (Value v)) refl)
ends_told app q (answered.Raised error) reply told before e =
    reply_told app q before (Error error) reply e (told (Gives (Error error)) refl)
ends_told app q (answered.Otherwise end) reply told before e =
    reply_told app q before (Other end) reply e (told (Gives (Other end)) refl)
ends_told app q (answered.Blamed failure) reply told before e = absurd e

-- what holds of a result from what its call tells of it
pub of_result : {A E : Type 0} (result : Result A E) (P Q : A → Type 0) → ((x : A) → P x → Q x) → IfOk result P →
    IfOk result Q
of_result (Ok x) P Q step h = step x h
of_result (Err e) P Q step h = h

-- a run that has begun is the whole run of its request
pub begun_left : (p q : Content) (asked copied : Request) (machine : Machine) → p ≡ q → copied ≡ asked →
    still (index_in q) (nodes_in q) machine.stage ≡ meaning_in (application_of q) (task.Request asked) →
    left_of (record { generation = p; request = copied; machine = machine }) ≡ request_run (application_of q) asked
begun_left p q asked copied machine same copy means =
    ap₂ (λ (c : Content) r. replying (application_of c) r (still (index_in c) (nodes_in c) machine.stage)) same copy
    ∙ ap (replying (application_of q) asked) means

-- what a machine goes to over a program, it goes to over the same program
pub went : (index : Content → Index) (nodes : Content → List Entry) (p q : Content) (stage after : Stage)
    (reached : Reached) → p ≡ q →
    GoesTo (index p) (nodes p) (still (index p) (nodes p) stage) reached after →
    GoesTo (index q) (nodes q) (still (index q) (nodes q) stage) reached after
went index nodes p q stage after reached same h = subst (λ (c : Content).
    GoesTo (index c) (nodes c) (still (index c) (nodes c) stage) reached after) same h
