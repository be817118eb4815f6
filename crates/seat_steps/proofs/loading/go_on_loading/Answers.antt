use Rattle.std.proofs.Common.{◌≡◌, ◌∙◌, Some, None, ap}
use Rattle.std.proofs.lemmas.Result.{IfOk-weaker}
use Rattle.load_sections.specs.declared.section.Made.TheVariants as section
use Rattle.seat_steps.specs.Theories.{theories_by}
use Rattle.seat_steps.specs.Stepping.{Next-Define, define_lines}
use Rattle.seat_steps.specs.declared.next.Stepped.TheVariants.{Went}
use Rattle.seat_steps.proofs.Sections.{made_by, define_goes, define_moves, owns_still, loaded_resumes, failed_resumes}
use Rattle.seat_steps.proofs.Sections.{done_goes, failed_goes, close_moves}
use Rattle.seat_steps.proofs.loading.go_on_loading.Goals as goal

pub returns-in-Defined-clause-goes : goal.returns-in-Defined-clause-goes
returns-in-Defined-clause-goes g c =
    let program : c.share-program.result ≡ c.args.system.now.state.counts.program =
    c.share-program.ensures ∙ c.program.ensures in
    let makes = made_by g.M.Matter.facts g.M.Theory.Theory.rules g.M.Theory.Program.runs c.theory.result.now
    (g.M.Loads.theory_of c.args.system.now.state.counts.program)
    (c.theory.ensures ∙ ap g.M.Loads.theory_of program) c.args.system.now.state c.define_next.new.system.state
    c.args.seat c.args.loader c.define_next.new.self.loader (section.Defined c.in-Defined.task)
    (rw c.in-Defined.is at c.in_ok-task.ensures.made) in
    let lines : c.in_ok-lines-in-Defined.lines ≡ define_lines g.M.Replays.words c.args.system.now.state.counts.program
    c.args.seat c.in-Defined.task =
    c.in_ok-lines-in-Defined.ensures
    ∙ ap (λ p. define_lines g.M.Replays.words p c.args.seat c.in-Defined.task) program in
    λ sought at_first made loading. Next-Define c.in-Defined.task c.define_next.new.self.loader
    (makes sought at_first made loading) (cc (lines))

pub returns-in-Defined-clause-open : goal.returns-in-Defined-clause-open
returns-in-Defined-clause-open g c =
    let program : c.share-program.result ≡ c.args.system.now.state.counts.program =
    c.share-program.ensures ∙ c.program.ensures in
    let makes = made_by g.M.Matter.facts g.M.Theory.Theory.rules g.M.Theory.Program.runs c.theory.result.now
    (g.M.Loads.theory_of c.args.system.now.state.counts.program)
    (c.theory.ensures ∙ ap g.M.Loads.theory_of program) c.args.system.now.state c.define_next.new.system.state
    c.args.seat c.args.loader c.define_next.new.self.loader (section.Defined c.in-Defined.task)
    (rw c.in-Defined.is at c.in_ok-task.ensures.made) in
    define_goes g.M.Matter.facts g.met.M.Matter.same_is_equal g.M.Requests.talks g.M.Replays.words
    (theories_by g.M.Theory.Theory.rules g.M.Theory.Program.runs g.M.Loads.theory_of)
    g.M.Loads.reason (λ p task. g.met.M.Loads.blame_is_reason p task) c.args.system.now.state
    c.define_next.new.system.state c.define_next.new.system.state c.args.seat c.args.actor
    c.args.loader c.define_next.new.self.loader c.in-Defined.task c.tells_laws.ensures.exclusive c.requires.going makes

pub returns-in-Defined-clause-moved : goal.returns-in-Defined-clause-moved
returns-in-Defined-clause-moved g c =
    let program : c.share-program.result ≡ c.args.system.now.state.counts.program =
    c.share-program.ensures ∙ c.program.ensures in
    let makes = made_by g.M.Matter.facts g.M.Theory.Theory.rules g.M.Theory.Program.runs c.theory.result.now
    (g.M.Loads.theory_of c.args.system.now.state.counts.program)
    (c.theory.ensures ∙ ap g.M.Loads.theory_of program) c.args.system.now.state c.define_next.new.system.state
    c.args.seat c.args.loader c.define_next.new.self.loader (section.Defined c.in-Defined.task)
    (rw c.in-Defined.is at c.in_ok-task.ensures.made) in
    define_moves g.M.Matter.facts g.met.M.Matter.same_is_equal g.M.Requests.talks g.M.Replays.words
    (theories_by g.M.Theory.Theory.rules g.M.Theory.Program.runs g.M.Loads.theory_of)
    g.M.Loads.reason (λ p task. g.met.M.Loads.blame_is_reason p task) c.args.system.now.state
    c.define_next.new.system.state c.define_next.new.system.state c.args.seat c.args.actor
    c.args.loader c.define_next.new.self.loader c.in-Defined.task c.requires.going makes

pub close-requires-clause-seat : goal.close-requires-clause-seat
close-requires-clause-seat g c =
    let program : c.share-program.result ≡ c.args.system.now.state.counts.program =
    c.share-program.ensures ∙ c.program.ensures in
    let makes = made_by g.M.Matter.facts g.M.Theory.Theory.rules g.M.Theory.Program.runs c.theory.result.now
    (g.M.Loads.theory_of c.args.system.now.state.counts.program)
    (c.theory.ensures ∙ ap g.M.Loads.theory_of program) c.args.system.now.state c.define_next.new.system.state
    c.args.seat c.args.loader c.define_next.new.self.loader section.Loaded
    (rw c.in-Loaded.is at c.in_ok-task.ensures.made) in
    rw (makes c.requires.going.0 c.requires.going.1.1.0 c.requires.going.1.1.1.0 c.requires.going.1.1.1.1).0
    c.requires.seat

pub close-requires-clause-exclusive : goal.close-requires-clause-exclusive
close-requires-clause-exclusive g c =
    let program : c.share-program.result ≡ c.args.system.now.state.counts.program =
    c.share-program.ensures ∙ c.program.ensures in
    let makes = made_by g.M.Matter.facts g.M.Theory.Theory.rules g.M.Theory.Program.runs c.theory.result.now
    (g.M.Loads.theory_of c.args.system.now.state.counts.program)
    (c.theory.ensures ∙ ap g.M.Loads.theory_of program) c.args.system.now.state c.define_next.new.system.state
    c.args.seat c.args.loader c.define_next.new.self.loader section.Loaded
    (rw c.in-Loaded.is at c.in_ok-task.ensures.made) in
    owns_still g.M.Matter.facts g.met.M.Matter.same_is_equal g.M.Requests.talks g.M.Replays.words
    (theories_by g.M.Theory.Theory.rules g.M.Theory.Program.runs g.M.Loads.theory_of)
    g.M.Loads.reason (λ p task. g.met.M.Loads.blame_is_reason p task) c.args.system.now.state
    c.define_next.new.system.state c.define_next.new.system.state c.args.seat c.args.actor
    c.args.loader
    (makes c.requires.going.0 c.requires.going.1.1.0 c.requires.going.1.1.1.0 c.requires.going.1.1.1.1).0
    c.requires.going

pub close-requires-clause-going : goal.close-requires-clause-going
close-requires-clause-going g c =
    let program : c.share-program.result ≡ c.args.system.now.state.counts.program =
    c.share-program.ensures ∙ c.program.ensures in
    let makes = made_by g.M.Matter.facts g.M.Theory.Theory.rules g.M.Theory.Program.runs c.theory.result.now
    (g.M.Loads.theory_of c.args.system.now.state.counts.program)
    (c.theory.ensures ∙ ap g.M.Loads.theory_of program) c.args.system.now.state c.define_next.new.system.state
    c.args.seat c.args.loader c.define_next.new.self.loader section.Loaded
    (rw c.in-Loaded.is at c.in_ok-task.ensures.made) in
    loaded_resumes g.M.Matter.facts g.met.M.Matter.same_is_equal g.M.Requests.talks g.M.Replays.words
    (theories_by g.M.Theory.Theory.rules g.M.Theory.Program.runs g.M.Loads.theory_of)
    g.M.Loads.reason (λ p task. g.met.M.Loads.blame_is_reason p task) c.args.system.now.state
    c.define_next.new.system.state c.define_next.new.system.state c.args.seat c.args.actor
    c.args.loader c.define_next.new.self.loader c.requires.going makes

pub returns-in-Loaded-clause-goes : goal.returns-in-Loaded-clause-goes
returns-in-Loaded-clause-goes g c =
    let program : c.share-program.result ≡ c.args.system.now.state.counts.program =
    c.share-program.ensures ∙ c.program.ensures in
    let makes = made_by g.M.Matter.facts g.M.Theory.Theory.rules g.M.Theory.Program.runs c.theory.result.now
    (g.M.Loads.theory_of c.args.system.now.state.counts.program)
    (c.theory.ensures ∙ ap g.M.Loads.theory_of program) c.args.system.now.state c.define_next.new.system.state
    c.args.seat c.args.loader c.define_next.new.self.loader section.Loaded
    (rw c.in-Loaded.is at c.in_ok-task.ensures.made) in
    IfOk-weaker c.close.result _ _ (λ stepped closes. λ sought at_first made loading.
    done_goes g.M.Matter.facts g.met.M.Matter.same_is_equal g.M.Requests.talks g.M.Replays.words
    (theories_by g.M.Theory.Theory.rules g.M.Theory.Program.runs g.M.Loads.theory_of)
    g.M.Loads.reason (λ p task. g.met.M.Loads.blame_is_reason p task) c.args.system.now.state
    c.define_next.new.system.state c.close.new.system.state c.args.seat c.args.actor
    stepped sought at_first made c.define_next.new.self.loader (makes sought at_first made loading) closes)
    c.close.ensures.closes

pub returns-in-Loaded-clause-moved : goal.returns-in-Loaded-clause-moved
returns-in-Loaded-clause-moved g c =
    let program : c.share-program.result ≡ c.args.system.now.state.counts.program =
    c.share-program.ensures ∙ c.program.ensures in
    let makes = made_by g.M.Matter.facts g.M.Theory.Theory.rules g.M.Theory.Program.runs c.theory.result.now
    (g.M.Loads.theory_of c.args.system.now.state.counts.program)
    (c.theory.ensures ∙ ap g.M.Loads.theory_of program) c.args.system.now.state c.define_next.new.system.state
    c.args.seat c.args.loader c.define_next.new.self.loader section.Loaded
    (rw c.in-Loaded.is at c.in_ok-task.ensures.made) in
    IfOk-weaker c.close.result _ _ (λ stepped closes.
    close_moves g.M.Matter.facts g.met.M.Matter.same_is_equal g.M.Requests.talks g.M.Replays.words
    (theories_by g.M.Theory.Theory.rules g.M.Theory.Program.runs g.M.Loads.theory_of)
    g.M.Loads.reason (λ p task. g.met.M.Loads.blame_is_reason p task) c.args.system.now.state
    c.define_next.new.system.state c.close.new.system.state c.args.seat c.args.actor
    None stepped
    (makes c.requires.going.0 c.requires.going.1.1.0 c.requires.going.1.1.1.0 c.requires.going.1.1.1.1).0
    closes)
    c.close.ensures.closes

pub close-requires-in-Failed-clause-seat : goal.close-requires-in-Failed-clause-seat
close-requires-in-Failed-clause-seat g c =
    let program : c.share-program.result ≡ c.args.system.now.state.counts.program =
    c.share-program.ensures ∙ c.program.ensures in
    let makes = made_by g.M.Matter.facts g.M.Theory.Theory.rules g.M.Theory.Program.runs c.theory.result.now
    (g.M.Loads.theory_of c.args.system.now.state.counts.program)
    (c.theory.ensures ∙ ap g.M.Loads.theory_of program) c.args.system.now.state c.define_next.new.system.state
    c.args.seat c.args.loader c.define_next.new.self.loader (section.Failed c.in-Failed.failure)
    (rw c.in-Failed.is at c.in_ok-task.ensures.made) in
    rw (makes c.requires.going.0 c.requires.going.1.1.0 c.requires.going.1.1.1.0 c.requires.going.1.1.1.1).0
    c.requires.seat

pub close-requires-in-Failed-clause-exclusive : goal.close-requires-in-Failed-clause-exclusive
close-requires-in-Failed-clause-exclusive g c =
    let program : c.share-program.result ≡ c.args.system.now.state.counts.program =
    c.share-program.ensures ∙ c.program.ensures in
    let makes = made_by g.M.Matter.facts g.M.Theory.Theory.rules g.M.Theory.Program.runs c.theory.result.now
    (g.M.Loads.theory_of c.args.system.now.state.counts.program)
    (c.theory.ensures ∙ ap g.M.Loads.theory_of program) c.args.system.now.state c.define_next.new.system.state
    c.args.seat c.args.loader c.define_next.new.self.loader (section.Failed c.in-Failed.failure)
    (rw c.in-Failed.is at c.in_ok-task.ensures.made) in
    owns_still g.M.Matter.facts g.met.M.Matter.same_is_equal g.M.Requests.talks g.M.Replays.words
    (theories_by g.M.Theory.Theory.rules g.M.Theory.Program.runs g.M.Loads.theory_of)
    g.M.Loads.reason (λ p task. g.met.M.Loads.blame_is_reason p task) c.args.system.now.state
    c.define_next.new.system.state c.define_next.new.system.state c.args.seat c.args.actor
    c.args.loader
    (makes c.requires.going.0 c.requires.going.1.1.0 c.requires.going.1.1.1.0 c.requires.going.1.1.1.1).0
    c.requires.going

pub close-requires-in-Failed-clause-going : goal.close-requires-in-Failed-clause-going
close-requires-in-Failed-clause-going g c =
    let program : c.share-program.result ≡ c.args.system.now.state.counts.program =
    c.share-program.ensures ∙ c.program.ensures in
    let makes = made_by g.M.Matter.facts g.M.Theory.Theory.rules g.M.Theory.Program.runs c.theory.result.now
    (g.M.Loads.theory_of c.args.system.now.state.counts.program)
    (c.theory.ensures ∙ ap g.M.Loads.theory_of program) c.args.system.now.state c.define_next.new.system.state
    c.args.seat c.args.loader c.define_next.new.self.loader (section.Failed c.in-Failed.failure)
    (rw c.in-Failed.is at c.in_ok-task.ensures.made) in
    failed_resumes g.M.Matter.facts g.met.M.Matter.same_is_equal g.M.Requests.talks g.M.Replays.words
    (theories_by g.M.Theory.Theory.rules g.M.Theory.Program.runs g.M.Loads.theory_of)
    g.M.Loads.reason (λ p task. g.met.M.Loads.blame_is_reason p task) c.args.system.now.state
    c.define_next.new.system.state c.define_next.new.system.state c.args.seat c.args.actor
    c.args.loader c.define_next.new.self.loader c.in-Failed.failure c.in_ok-error-in-Failed.error
    c.in_ok-error-in-Failed.ensures c.requires.going makes

pub returns-clause-goes : goal.returns-clause-goes
returns-clause-goes g c =
    let program : c.share-program.result ≡ c.args.system.now.state.counts.program =
    c.share-program.ensures ∙ c.program.ensures in
    let makes = made_by g.M.Matter.facts g.M.Theory.Theory.rules g.M.Theory.Program.runs c.theory.result.now
    (g.M.Loads.theory_of c.args.system.now.state.counts.program)
    (c.theory.ensures ∙ ap g.M.Loads.theory_of program) c.args.system.now.state c.define_next.new.system.state
    c.args.seat c.args.loader c.define_next.new.self.loader (section.Failed c.in-Failed.failure)
    (rw c.in-Failed.is at c.in_ok-task.ensures.made) in
    IfOk-weaker c.close-in-Failed.result _ _ (λ stepped closes. λ sought at_first made loading.
    failed_goes g.M.Matter.facts g.met.M.Matter.same_is_equal g.M.Requests.talks g.M.Replays.words
    (theories_by g.M.Theory.Theory.rules g.M.Theory.Program.runs g.M.Loads.theory_of)
    g.M.Loads.reason (λ p task. g.met.M.Loads.blame_is_reason p task) c.args.system.now.state
    c.define_next.new.system.state c.close-in-Failed.new.system.state c.args.seat c.args.actor
    stepped sought at_first made c.define_next.new.self.loader c.in-Failed.failure c.in_ok-error-in-Failed.error
    c.in_ok-error-in-Failed.ensures (makes sought at_first made loading) closes)
    c.close-in-Failed.ensures.closes

pub returns-clause-moved : goal.returns-clause-moved
returns-clause-moved g c =
    let program : c.share-program.result ≡ c.args.system.now.state.counts.program =
    c.share-program.ensures ∙ c.program.ensures in
    let makes = made_by g.M.Matter.facts g.M.Theory.Theory.rules g.M.Theory.Program.runs c.theory.result.now
    (g.M.Loads.theory_of c.args.system.now.state.counts.program)
    (c.theory.ensures ∙ ap g.M.Loads.theory_of program) c.args.system.now.state c.define_next.new.system.state
    c.args.seat c.args.loader c.define_next.new.self.loader (section.Failed c.in-Failed.failure)
    (rw c.in-Failed.is at c.in_ok-task.ensures.made) in
    IfOk-weaker c.close-in-Failed.result _ _ (λ stepped closes.
    close_moves g.M.Matter.facts g.met.M.Matter.same_is_equal g.M.Requests.talks g.M.Replays.words
    (theories_by g.M.Theory.Theory.rules g.M.Theory.Program.runs g.M.Loads.theory_of)
    g.M.Loads.reason (λ p task. g.met.M.Loads.blame_is_reason p task) c.args.system.now.state
    c.define_next.new.system.state c.close-in-Failed.new.system.state c.args.seat c.args.actor
    (Some c.in_ok-error-in-Failed.error) stepped
    (makes c.requires.going.0 c.requires.going.1.1.0 c.requires.going.1.1.1.0 c.requires.going.1.1.1.1).0
    closes)
    c.close-in-Failed.ensures.closes
