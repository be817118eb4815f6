-- How an answer's output was written.
use Rattle.std.proofs.Common.{◌≡◌, ℕ, List, [], Option, Some, None, IfSome, Result, Ok, Err}
use Rattle.std.proofs.Common.{append-nil, refl, sym, ap, subst}
use Rattle.outside.specs.Told.{appended}
use Rattle.outside.specs.declared.files.FileEntry.{FileEntry}
use Rattle.command_words.specs.Words.{IsCommandLine}
use Rattle.command_runs.specs.Asked.{Asks, IsLater, IsTooLong}
use Rattle.command_runs.specs.Output.{IsAfterReading, Writes, WritesAnswer, WritesOne}
use Rattle.command_runs.specs.Output.{WritesOn, Output, faulty_words, known, answers, KnownOutput, too_long, not_built}
use Rattle.command_runs.specs.Output.{too_long_bytes, not_built_line}
use Rattle.command_runs.specs.declared.answer.Answer.{Answer}
use Rattle.command_runs.specs.declared.answer.Question.{Question}
use Rattle.command_runs.specs.declared.outcome.Outcome.{Outcome}
use Rattle.command_runs.specs.declared.outcome.Outcome.TheVariants.{Done, Negative, FaultyWords, FilesUnread}
use Rattle.command_runs.specs.declared.outcome.Outcome.TheVariants.{WriteFault, Memory, Refused, NotBuilt}

-- an output that was written is one output
one_written : (Is : List ℕ → Outcome → Type 0) (output : List ℕ) (own outcome : Outcome)
    (before now : Option (List ℕ)) → Is output own → Writes output own outcome before now →
    WritesOne Is outcome before now
one_written Is output own Done before now p w = (output, own, p, w)
one_written Is output own Negative before now p w = (output, own, p, w)
one_written Is output own FaultyWords before now p w = (output, own, p, w)
one_written Is output own FilesUnread before now p w = (output, own, p, w)
one_written Is output own WriteFault before now p w = (output, own, p, w)
one_written Is output own Memory before now p w = w
one_written Is output own Refused before now p w = (output, own, p, w)
one_written Is output own NotBuilt before now p w = (output, own, p, w)

-- an output on whichever files the tree holds
on_any : (Is : List FileEntry → List ℕ → Outcome → Type 0) (held : Option (List FileEntry)) (outcome : Outcome)
    (before now : Option (List ℕ))
    → IsAfterReading outcome →
    ((files : List FileEntry) → held ≡ Some files → WritesOne (Is files) outcome before now) →
    (outcome ≡ Memory → now ≡ before) → WritesOn held Is outcome before now
on_any Is None Done before now own w m = tt
on_any Is None Negative before now own w m = tt
on_any Is None FaultyWords before now own w m = absurd own
on_any Is None FilesUnread before now own w m = absurd own
on_any Is None WriteFault before now own w m = tt
on_any Is None Memory before now own w m = m refl
on_any Is None Refused before now own w m = tt
on_any Is None NotBuilt before now own w m = tt
on_any Is (Some all) Done before now own w m = w all refl
on_any Is (Some all) Negative before now own w m = w all refl
on_any Is (Some all) FaultyWords before now own w m = absurd own
on_any Is (Some all) FilesUnread before now own w m = absurd own
on_any Is (Some all) WriteFault before now own w m = w all refl
on_any Is (Some all) Memory before now own w m = m refl
on_any Is (Some all) Refused before now own w m = w all refl
on_any Is (Some all) NotBuilt before now own w m = w all refl

nothing_without_memory : (output : List ℕ) (own outcome : Outcome) (before now : Option (List ℕ)) →
    Writes output own outcome before now → outcome ≡ Memory → now ≡ before
nothing_without_memory output own outcome before now w e =
    let P : Outcome → Type 0 = λ s. Writes output own s before now in subst P e w

-- an answer on the files that the tree holds
pub answer_written : {E : Type 0} (Is : List FileEntry → List ℕ → Outcome → Type 0) (held : Option (List FileEntry))
    (answer : Result Answer E) (outcome : Outcome) (before now : Option (List ℕ)) → IsAfterReading outcome →
    ((files : List FileEntry) (given : Answer) → held ≡ Some files → answer ≡ Ok given →
    Is files given.bytes given.outcome) →
    WritesAnswer answer outcome before now → WritesOn held Is outcome before now
answer_written Is held (Ok given) outcome before now own is w =
    on_any Is held outcome before now own
    (λ files e. one_written (Is files) given.bytes given.outcome outcome before now (is files given e refl) w)
    (nothing_without_memory given.bytes given.outcome outcome before now w)
answer_written Is held (Err error) outcome before now own is w =
    let P : Outcome → Type 0 = λ s. WritesOn held Is s before now in subst P (sym w.0) w.1

-- an output of which more holds
weaker_one : (Is Js : List ℕ → Outcome → Type 0) (outcome : Outcome) (before now : Option (List ℕ)) →
    ((output : List ℕ) (own : Outcome) → Is output own → Js output own)
    → WritesOne Is outcome before now → WritesOne Js outcome before now
weaker_one Is Js Done before now to w = (w.0, w.1, to w.0 w.1 w.2, w.3)
weaker_one Is Js Negative before now to w = (w.0, w.1, to w.0 w.1 w.2, w.3)
weaker_one Is Js FaultyWords before now to w = (w.0, w.1, to w.0 w.1 w.2, w.3)
weaker_one Is Js FilesUnread before now to w = (w.0, w.1, to w.0 w.1 w.2, w.3)
weaker_one Is Js WriteFault before now to w = (w.0, w.1, to w.0 w.1 w.2, w.3)
weaker_one Is Js Memory before now to w = w
weaker_one Is Js Refused before now to w = (w.0, w.1, to w.0 w.1 w.2, w.3)
weaker_one Is Js NotBuilt before now to w = (w.0, w.1, to w.0 w.1 w.2, w.3)

weaker_some : (Is Js : List FileEntry → List ℕ → Outcome → Type 0) (held : Option (List FileEntry))
    (outcome : Outcome) (before now : Option (List ℕ))
    → ((files : List FileEntry) (output : List ℕ) (own : Outcome) → Is files output own → Js files output own)
    → IfSome held (λ files. WritesOne (Is files) outcome before now) →
    IfSome held (λ files. WritesOne (Js files) outcome before now)
weaker_some Is Js None outcome before now to w = tt
weaker_some Is Js (Some files) outcome before now to w =
    weaker_one (Is files) (Js files) outcome before now (to files) w

weaker_on : (Is Js : List FileEntry → List ℕ → Outcome → Type 0) (held : Option (List FileEntry)) (outcome : Outcome)
    (before now : Option (List ℕ))
    → ((files : List FileEntry) (output : List ℕ) (own : Outcome) → Is files output own → Js files output own)
    → WritesOn held Is outcome before now → WritesOn held Js outcome before now
weaker_on Is Js held Done before now to w = weaker_some Is Js held Done before now to w
weaker_on Is Js held Negative before now to w = weaker_some Is Js held Negative before now to w
weaker_on Is Js held FaultyWords before now to w = weaker_some Is Js held FaultyWords before now to w
weaker_on Is Js held FilesUnread before now to w = w
weaker_on Is Js held WriteFault before now to w = weaker_some Is Js held WriteFault before now to w
weaker_on Is Js held Memory before now to w = w
weaker_on Is Js held Refused before now to w = weaker_some Is Js held Refused before now to w
weaker_on Is Js held NotBuilt before now to w = weaker_some Is Js held NotBuilt before now to w

appended_nothing : (before : Option (List ℕ)) → before ≡ appended before []
appended_nothing None = refl
appended_nothing (Some all) = ap Some (sym (append-nil all))

-- faulty words write nothing
pub faulty_words_written : (Is : Question → List FileEntry → List ℕ → Outcome → Type 0) (words : List (List ℕ))
    (held : Option (List FileEntry)) (before : Option (List ℕ)) → ¬ (IsCommandLine words) →
    WritesOn held (Output Is words) FaultyWords before before
faulty_words_written Is words None before faulty = tt
faulty_words_written Is words (Some all) before faulty =
    ([], FaultyWords, faulty_words faulty, (refl, appended_nothing before))

-- the output of what the words ask is their output
pub question_written : (Is : Question → List FileEntry → List ℕ → Outcome → Type 0) (words : List (List ℕ))
    (question : Question) (held : Option (List FileEntry)) (outcome : Outcome) (before now : Option (List ℕ)) →
    Asks words question → WritesOn held (Is question) outcome before now →
    WritesOn held (Output Is words) outcome before now
question_written Is words question held outcome before now asks w =
    weaker_on (Is question) (Output Is words) held outcome before now
    (λ files output own is. answers question output own asks is) w

-- the answer to a target that is too long
pub known_long : (words : List (List ℕ)) (output : List ℕ) (own : Outcome) → IsTooLong words →
    (output ≡ too_long_bytes) × (own ≡ Negative) → KnownOutput words output own
known_long words output own long same =
    subst (KnownOutput words output) (sym same.1)
    (subst (λ bytes. KnownOutput words bytes Negative) (sym same.0) (too_long long))

-- the answer to what is not built yet
pub known_later : (words : List (List ℕ)) (output : List ℕ) (own : Outcome) → IsLater words →
    (output ≡ not_built_line) × (own ≡ NotBuilt) → KnownOutput words output own
known_later words output own later same =
    subst (KnownOutput words output) (sym same.1)
    (subst (λ bytes. KnownOutput words bytes NotBuilt) (sym same.0) (not_built later))

-- an answer that no file decides is the output of the words
pub known_written : (Is : Question → List FileEntry → List ℕ → Outcome → Type 0) (words : List (List ℕ))
    (held : Option (List FileEntry)) (answer : Answer) (outcome : Outcome) (before now : Option (List ℕ)) →
    KnownOutput words answer.bytes answer.outcome → IsAfterReading outcome →
    Writes answer.bytes answer.outcome outcome before now → WritesOn held (Output Is words) outcome before now
known_written Is words held answer outcome before now k own w =
    on_any (Output Is words) held outcome before now own
    (λ files e. one_written (Output Is words files) answer.bytes answer.outcome outcome before now
    (known answer.bytes answer.outcome k) w)
    (nothing_without_memory answer.bytes answer.outcome outcome before now w)
