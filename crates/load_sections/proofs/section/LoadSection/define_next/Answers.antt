use Rattle.std.proofs.Common.{refl, lt_trans, ◌∙◌}
use Rattle.by_need_loader.specs.Progress.{History}
use Rattle.load_sections.specs.Sections.{table_at}
use Rattle.load_sections.proofs.Defining.{is_defined, is_loaded, has_failed, theory_at, define_is_needed}
use Rattle.load_sections.proofs.section.LoadSection.define_next.Goals as goal

pub looks-init : goal.looks-init
looks-init g c = record { seat = refl; state = refl; keeps = λ sought at_first made is. is }

pub returns-in_err-asked-clause-seat : goal.returns-in_err-asked-clause-seat
returns-in_err-asked-clause-seat g c = c.looks.invariant.seat

pub returns-in_err-answer-in-Look-clause-seat : goal.returns-in_err-answer-in-Look-clause-seat
returns-in_err-answer-in-Look-clause-seat g c = c.looks.invariant.seat

pub looks-smaller : goal.looks-smaller
looks-smaller g c =
    let now = c.looks.invariant.keeps c.requires.loading.0 c.requires.loading.1 c.requires.loading.2
    c.requires.loading.3 in
    let h : History _ _ = record {
      wanted = c.requires.loading.0;
      at_first = c.requires.loading.1;
      made = c.requires.loading.2;
      table = table_at g.M.Matter.facts c.looks.system.state;
    } in
    let s = rw c.in-Look.is at (c.in_ok-asked.ensures h now.ready now.on) in
    let a = c.in_ok-answer-in-Look.ensures c.args.theory.now h
    (record { task = c.in-Look.asked; looks = s.0; is = c.value.ensures }) s.1 in
    lt_trans a.less s.2

pub looks-preserved : goal.looks-preserved
looks-preserved g c = record {
  seat = c.looks.invariant.seat;
  state = c.looks.invariant.state;
  keeps = λ sought at_first made is.
      let now = c.looks.invariant.keeps sought at_first made is in
      let h : History _ _ = record {
        wanted = sought;
        at_first = at_first;
        made = made;
        table = table_at g.M.Matter.facts c.looks.system.state;
      } in
      let s = rw c.in-Look.is at (c.in_ok-asked.ensures h now.ready now.on) in
      let a = c.in_ok-answer-in-Look.ensures c.args.theory.now h
      (record { task = c.in-Look.asked; looks = s.0; is = c.value.ensures }) s.1 in
      record {
        section = now.section;
        passes = now.passes;
        ready = a.ready;
        on = a.on;
      };
}

pub returns-in_err-defined-in-Define-clause-seat : goal.returns-in_err-defined-in-Define-clause-seat
returns-in_err-defined-in-Define-clause-seat g c = c.looks.invariant.seat

pub define-requires-clause-seat : goal.define-requires-clause-seat
define-requires-clause-seat g c = rw (c.looks.invariant.seat, c.looks.invariant.state) c.requires.seat

pub define-requires-clause-passes : goal.define-requires-clause-passes
define-requires-clause-passes g c =
    let now = c.looks.invariant.keeps c.requires.loading.0 c.requires.loading.1 c.requires.loading.2
    c.requires.loading.3 in
    rw c.looks.invariant.seat now.passes

pub define-requires-clause-lacks : goal.define-requires-clause-lacks
define-requires-clause-lacks g c =
    let now = c.looks.invariant.keeps c.requires.loading.0 c.requires.loading.1 c.requires.loading.2
    c.requires.loading.3 in
    let h : History _ _ = record {
      wanted = c.requires.loading.0;
      at_first = c.requires.loading.1;
      made = c.requires.loading.2;
      table = table_at g.M.Matter.facts c.looks.system.state;
    } in
    let s = rw c.in-Define.is at (c.in_ok-asked.ensures h now.ready now.on) in
    s.1

pub define-requires-clause-needed : goal.define-requires-clause-needed
define-requires-clause-needed g c =
    let now = c.looks.invariant.keeps c.requires.loading.0 c.requires.loading.1 c.requires.loading.2
    c.requires.loading.3 in
    let h : History _ _ = record {
      wanted = c.requires.loading.0;
      at_first = c.requires.loading.1;
      made = c.requires.loading.2;
      table = table_at g.M.Matter.facts c.looks.system.state;
    } in
    let s = rw c.in-Define.is at (c.in_ok-asked.ensures h now.ready now.on) in
    let of = theory_at g.M.Matter.facts (g.Y.Theory.rules c.args.theory.now) c.args.system.now.state
    c.looks.system.state c.looks.invariant.state c.requires.theory in
    rw c.looks.invariant.seat (define_is_needed g.M.Matter.facts g.met.M.Matter.same_is_equal
    (g.Y.Theory.rules c.args.theory.now)
    (g.Y.Theory.laws c.args.theory.now) (g.Y.Program.runs c.args.theory.now)
    c.requires.loading.0 c.requires.loading.1 c.looks.system.state c.args.self.now.seat c.step.new.self
    c.requires.loading.2 _ c.in-Define.task c.in-Define.value of now.section s)

pub define-requires-clause-known : goal.define-requires-clause-known
define-requires-clause-known g c =
    let now = c.looks.invariant.keeps c.requires.loading.0 c.requires.loading.1 c.requires.loading.2
    c.requires.loading.3 in
    let h : History _ _ = record {
      wanted = c.requires.loading.0;
      at_first = c.requires.loading.1;
      made = c.requires.loading.2;
      table = table_at g.M.Matter.facts c.looks.system.state;
    } in
    let s = rw c.in-Define.is at (c.in_ok-asked.ensures h now.ready now.on) in
    let of = theory_at g.M.Matter.facts (g.Y.Theory.rules c.args.theory.now) c.args.system.now.state
    c.looks.system.state c.looks.invariant.state c.requires.theory in
    of.known_of c.in-Define.task ∙ s.2

pub returns-in_err-define-in-Define-clause-seat : goal.returns-in_err-define-in-Define-clause-seat
returns-in_err-define-in-Define-clause-seat g c = c.looks.invariant.seat

pub returns-in-Define-clause-seat : goal.returns-in-Define-clause-seat
returns-in-Define-clause-seat g c = c.looks.invariant.seat

pub returns-in-Define-clause-made : goal.returns-in-Define-clause-made
returns-in-Define-clause-made g c = λ sought at_first made is.
    let now = c.looks.invariant.keeps sought at_first made is in
    let h : History _ _ = record {
      wanted = sought;
      at_first = at_first;
      made = made;
      table = table_at g.M.Matter.facts c.looks.system.state;
    } in
    let s = rw c.in-Define.is at (c.in_ok-asked.ensures h now.ready now.on) in
    let of = theory_at g.M.Matter.facts (g.Y.Theory.rules c.args.theory.now) c.args.system.now.state
    c.looks.system.state c.looks.invariant.state c.requires.theory in
    is_defined g.M.Matter.facts g.met.M.Matter.same_is_equal (g.Y.Theory.rules c.args.theory.now)
    (g.Y.Theory.laws c.args.theory.now) (g.Y.Program.runs c.args.theory.now)
    sought at_first c.args.system.now.state c.looks.system.state c.define.new.system.state c.args.self.now.seat
    c.looks.self.seat c.step.new.self made _ c.in_ok-defined-in-Define.defined c.in-Define.task
    c.in-Define.value c.looks.invariant.state c.looks.invariant.seat c.in_ok-defined-in-Define.ensures
    c.in_ok-define-in-Define.ensures now.section now.passes (of.known_of c.in-Define.task ∙ s.2) s

pub returns-in-Done-clause-seat : goal.returns-in-Done-clause-seat
returns-in-Done-clause-seat g c = c.looks.invariant.seat

pub returns-in-Done-clause-made : goal.returns-in-Done-clause-made
returns-in-Done-clause-made g c = λ sought at_first made is.
    let now = c.looks.invariant.keeps sought at_first made is in
    let h : History _ _ = record {
      wanted = sought;
      at_first = at_first;
      made = made;
      table = table_at g.M.Matter.facts c.looks.system.state;
    } in
    let s = rw c.in-Done.is at (c.in_ok-asked.ensures h now.ready now.on) in
    let of = theory_at g.M.Matter.facts (g.Y.Theory.rules c.args.theory.now) c.args.system.now.state
    c.looks.system.state c.looks.invariant.state c.requires.theory in
    is_loaded g.M.Matter.facts g.met.M.Matter.same_is_equal (g.Y.Theory.rules c.args.theory.now)
    (g.Y.Theory.laws c.args.theory.now) (g.Y.Program.runs c.args.theory.now)
    sought at_first c.args.system.now.state c.looks.system.state c.args.self.now.seat c.step.new.self
    c.step.new.self made 0 of c.looks.invariant.state s

pub returns-in-Failed-clause-seat : goal.returns-in-Failed-clause-seat
returns-in-Failed-clause-seat g c = c.looks.invariant.seat

pub returns-in-Failed-clause-made : goal.returns-in-Failed-clause-made
returns-in-Failed-clause-made g c = λ sought at_first made is.
    let now = c.looks.invariant.keeps sought at_first made is in
    let h : History _ _ = record {
      wanted = sought;
      at_first = at_first;
      made = made;
      table = table_at g.M.Matter.facts c.looks.system.state;
    } in
    let s = rw c.in-Failed.is at (c.in_ok-asked.ensures h now.ready now.on) in
    let of = theory_at g.M.Matter.facts (g.Y.Theory.rules c.args.theory.now) c.args.system.now.state
    c.looks.system.state c.looks.invariant.state c.requires.theory in
    has_failed g.M.Matter.facts g.met.M.Matter.same_is_equal (g.Y.Theory.rules c.args.theory.now)
    (g.Y.Theory.laws c.args.theory.now) (g.Y.Program.runs c.args.theory.now)
    sought at_first c.args.system.now.state c.looks.system.state c.args.self.now.seat c.step.new.self
    c.step.new.self made 0 c.in-Failed.failure of c.looks.invariant.state s
