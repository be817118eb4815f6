use Rattle.std.proofs.Common.{◌≤◌, [], ◌∷◌, refl, sym, ap, ◌∙◌, subst}
use Rattle.system_events.specs.declared.event.Kept.TheVariants.{Define}
use Rattle.request_laws.specs.Conduct.{no_defines, defines}
use Rattle.shop_base.specs.declared.row.PassRow.{PassRow}
use Rattle.shop_base.proofs.Gaining.{gains_made}
use Rattle.pass_loads.proofs.Sections.{none_loaded, loads_more, looks_on, theory_here, loader_begins, history_of}
use Rattle.pass_loads.proofs.Sections.{loader_looked, loader_defined, define_is_allowed}
use Rattle.pass_loads.proofs.section.define_all.Goals as goal

pub steps-init : goal.steps-init
steps-init g c =
    rw c.begin-loader.ensures (record {
      on = none_loaded g.M.Matter.facts g.met.M.Matter.same_is_equal c.args.pass.now;
      is = c.tells.ensures;
      has = loader_begins g.M.Matter.facts g.met.M.Matter.same_is_equal (g.Y.Theory.rules c.args.theory.now)
          (g.Y.Theory.laws c.args.theory.now) (g.Y.Program.runs c.args.theory.now) c.args.task c.args.pass.now
          c.tells.ensures c.requires.theory c.requires.task c.requires.loads;
    })

pub returns-in_err-asked-clause-defines : goal.returns-in_err-asked-clause-defines
returns-in_err-asked-clause-defines g c = c.steps.invariant.on

pub returns-in_err-asked-clause-loads : goal.returns-in_err-asked-clause-loads
returns-in_err-asked-clause-loads g c = c.steps.invariant.has.loads

pub look-requires-clause-own : goal.look-requires-clause-own
look-requires-clause-own g c = ap (λ p. p.shop) c.steps.invariant.on.same ∙ c.requires.own

pub look-requires-clause-loads : goal.look-requires-clause-loads
look-requires-clause-loads g c = c.steps.invariant.has.loads.loads

pub returns-in_err-look-in-Look-clause-defines : goal.returns-in_err-look-in-Look-clause-defines
returns-in_err-look-in-Look-clause-defines g c =
    let later = looks_on g.M.Matter.facts g.met.M.Matter.same_is_equal c.args.pass.now
    c.steps.pass c.look.new.pass c.args.task c.steps.invariant.on c.steps.invariant.is c.look.ensures.pass
    c.look.ensures.same c.look.ensures.seen c.steps.invariant.has.loads in
    later.0

pub returns-in_err-look-in-Look-clause-loads : goal.returns-in_err-look-in-Look-clause-loads
returns-in_err-look-in-Look-clause-loads g c =
    let later = looks_on g.M.Matter.facts g.met.M.Matter.same_is_equal c.args.pass.now
    c.steps.pass c.look.new.pass c.args.task c.steps.invariant.on c.steps.invariant.is c.look.ensures.pass
    c.look.ensures.same c.look.ensures.seen c.steps.invariant.has.loads in
    later.1

pub steps-smaller-in-Look : goal.steps-smaller-in-Look
steps-smaller-in-Look g c =
    let later = looks_on g.M.Matter.facts g.met.M.Matter.same_is_equal c.args.pass.now
    c.steps.pass c.look.new.pass c.args.task c.steps.invariant.on c.steps.invariant.is c.look.ensures.pass
    c.look.ensures.same c.look.ensures.seen c.steps.invariant.has.loads in
    let has = c.steps.invariant.has in
    let told = rw c.in-Look.is at (c.in_ok-asked.ensures (history_of g.M.Matter.facts
    (g.Y.Theory.rules c.args.theory.now) (g.Y.Program.runs c.args.theory.now) c.args.task c.steps.pass
    c.steps.loader has) has.ready has.on) in
    let went = c.in_ok-look-in-Look.ensures.goes c.args.theory.now (history_of g.M.Matter.facts
    (g.Y.Theory.rules c.args.theory.now) (g.Y.Program.runs c.args.theory.now) c.args.task c.steps.pass
    c.steps.loader has) told.0 refl told.1 in
    let next = loader_looked g.M.Matter.facts g.met.M.Matter.same_is_equal (g.Y.Theory.rules c.args.theory.now)
    (g.Y.Theory.laws c.args.theory.now) (g.Y.Program.runs c.args.theory.now) c.args.task c.steps.pass
    c.look.new.pass c.steps.loader c.step.new.self c.look.new.loader c.in-Look.asked has told c.look.ensures.table
    later.1 went in
    next.1

pub steps-preserved-in-Look : goal.steps-preserved-in-Look
steps-preserved-in-Look g c =
    let later = looks_on g.M.Matter.facts g.met.M.Matter.same_is_equal c.args.pass.now
    c.steps.pass c.look.new.pass c.args.task c.steps.invariant.on c.steps.invariant.is c.look.ensures.pass
    c.look.ensures.same c.look.ensures.seen c.steps.invariant.has.loads in
    let has = c.steps.invariant.has in
    let told = rw c.in-Look.is at (c.in_ok-asked.ensures (history_of g.M.Matter.facts
    (g.Y.Theory.rules c.args.theory.now) (g.Y.Program.runs c.args.theory.now) c.args.task c.steps.pass
    c.steps.loader has) has.ready has.on) in
    let went = c.in_ok-look-in-Look.ensures.goes c.args.theory.now (history_of g.M.Matter.facts
    (g.Y.Theory.rules c.args.theory.now) (g.Y.Program.runs c.args.theory.now) c.args.task c.steps.pass
    c.steps.loader has) told.0 refl told.1 in
    let next = loader_looked g.M.Matter.facts g.met.M.Matter.same_is_equal (g.Y.Theory.rules c.args.theory.now)
    (g.Y.Theory.laws c.args.theory.now) (g.Y.Program.runs c.args.theory.now) c.args.task c.steps.pass
    c.look.new.pass c.steps.loader c.step.new.self c.look.new.loader c.in-Look.asked has told c.look.ensures.table
    later.1 went in
    record { on = later.0; is = c.look.ensures.pass; has = next.0 }

pub define-requires-clause-own : goal.define-requires-clause-own
define-requires-clause-own g c = ap (λ p. p.shop) c.steps.invariant.on.same ∙ c.requires.own

pub define-requires-clause-loads : goal.define-requires-clause-loads
define-requires-clause-loads g c = c.steps.invariant.has.loads.loads

pub define-requires-clause-room : goal.define-requires-clause-room
define-requires-clause-room g c =
    subst (λ (r : PassRow). 4 ≤ r.entries) (sym (ap (λ p. p.row) c.steps.invariant.on.same)) c.requires.room

pub define-requires-clause-lacks : goal.define-requires-clause-lacks
define-requires-clause-lacks g c =
    let has = c.steps.invariant.has in
    let told = rw c.in-Define.is at (c.in_ok-asked.ensures (history_of g.M.Matter.facts
    (g.Y.Theory.rules c.args.theory.now) (g.Y.Program.runs c.args.theory.now) c.args.task c.steps.pass
    c.steps.loader has) has.ready has.on) in
    told.1

pub define-requires-clause-needed : goal.define-requires-clause-needed
define-requires-clause-needed g c =
    let of = theory_here g.M.Matter.facts (g.Y.Theory.rules c.args.theory.now) c.args.pass.now
    c.steps.pass c.steps.invariant.on c.requires.theory in
    let has = c.steps.invariant.has in
    let told = rw c.in-Define.is at (c.in_ok-asked.ensures (history_of g.M.Matter.facts
    (g.Y.Theory.rules c.args.theory.now) (g.Y.Program.runs c.args.theory.now) c.args.task c.steps.pass
    c.steps.loader has) has.ready has.on) in
    define_is_allowed g.M.Matter.facts g.met.M.Matter.same_is_equal (g.Y.Theory.rules c.args.theory.now)
    (g.Y.Theory.laws c.args.theory.now) (g.Y.Program.runs c.args.theory.now) c.args.task c.steps.pass
    c.steps.loader c.step.new.self c.in-Define.done c.in-Define.value has of told

pub define-requires-clause-known : goal.define-requires-clause-known
define-requires-clause-known g c =
    let of = theory_here g.M.Matter.facts (g.Y.Theory.rules c.args.theory.now) c.args.pass.now
    c.steps.pass c.steps.invariant.on c.requires.theory in
    let has = c.steps.invariant.has in
    let told = rw c.in-Define.is at (c.in_ok-asked.ensures (history_of g.M.Matter.facts
    (g.Y.Theory.rules c.args.theory.now) (g.Y.Program.runs c.args.theory.now) c.args.task c.steps.pass
    c.steps.loader has) has.ready has.on) in
    of.known_of c.in-Define.done ∙ told.2

pub steps-smaller : goal.steps-smaller
steps-smaller g c =
    let of = theory_here g.M.Matter.facts (g.Y.Theory.rules c.args.theory.now) c.args.pass.now
    c.steps.pass c.steps.invariant.on c.requires.theory in
    let has = c.steps.invariant.has in
    let told = rw c.in-Define.is at (c.in_ok-asked.ensures (history_of g.M.Matter.facts
    (g.Y.Theory.rules c.args.theory.now) (g.Y.Program.runs c.args.theory.now) c.args.task c.steps.pass
    c.steps.loader has) has.ready has.on) in
    let next = loader_defined g.M.Matter.facts g.met.M.Matter.same_is_equal (g.Y.Theory.rules c.args.theory.now)
    (g.Y.Theory.laws c.args.theory.now) (g.Y.Program.runs c.args.theory.now) c.args.task c.steps.pass
    c.define.new.pass c.steps.loader c.step.new.self c.in-Define.done c.in-Define.value has of told
    c.in_ok-define-in-Define.ensures.table (c.define.ensures.section c.args.task has.loads) in
    next.1

pub steps-preserved : goal.steps-preserved
steps-preserved g c =
    let of = theory_here g.M.Matter.facts (g.Y.Theory.rules c.args.theory.now) c.args.pass.now
    c.steps.pass c.steps.invariant.on c.requires.theory in
    let has = c.steps.invariant.has in
    let told = rw c.in-Define.is at (c.in_ok-asked.ensures (history_of g.M.Matter.facts
    (g.Y.Theory.rules c.args.theory.now) (g.Y.Program.runs c.args.theory.now) c.args.task c.steps.pass
    c.steps.loader has) has.ready has.on) in
    let made = c.in_ok-define-in-Define.ensures.made in
    let on = loads_more g.M.Matter.facts g.met.M.Matter.same_is_equal c.args.pass.now
    c.steps.pass c.define.new.pass (Define c.in-Define.done ∷ []) c.steps.invariant.on c.steps.invariant.is
    c.define.ensures.pass c.define.ensures.same (defines c.in-Define.done [] no_defines)
    (gains_made (c.steps.pass).number (Define c.in-Define.done) (c.steps.pass).seen (c.define.new.pass).seen made)
    c.steps.invariant.has.loads.loads in
    let next = loader_defined g.M.Matter.facts g.met.M.Matter.same_is_equal (g.Y.Theory.rules c.args.theory.now)
    (g.Y.Theory.laws c.args.theory.now) (g.Y.Program.runs c.args.theory.now) c.args.task c.steps.pass
    c.define.new.pass c.steps.loader c.step.new.self c.in-Define.done c.in-Define.value has of told
    c.in_ok-define-in-Define.ensures.table (c.define.ensures.section c.args.task has.loads) in
    record { on = on; is = c.define.ensures.pass; has = next.0 }

pub returns-in_err-define-in-Define-clause-defines :
    goal.returns-in_err-define-in-Define-clause-defines
returns-in_err-define-in-Define-clause-defines g c =
    (looks_on g.M.Matter.facts g.met.M.Matter.same_is_equal c.args.pass.now
    c.steps.pass c.define.new.pass c.args.task c.steps.invariant.on c.steps.invariant.is c.define.ensures.pass
    c.define.ensures.same c.in_err-define-in-Define.ensures.err c.steps.invariant.has.loads).0

pub returns-in_err-define-in-Define-clause-loads :
    goal.returns-in_err-define-in-Define-clause-loads
returns-in_err-define-in-Define-clause-loads g c = c.define.ensures.section c.args.task c.steps.invariant.has.loads

pub returns-in-Done-clause-defines : goal.returns-in-Done-clause-defines
returns-in-Done-clause-defines g c = c.steps.invariant.on

pub returns-in-Done-clause-loads : goal.returns-in-Done-clause-loads
returns-in-Done-clause-loads g c = c.steps.invariant.has.loads

pub returns-in-Done-clause-loaded : goal.returns-in-Done-clause-loaded
returns-in-Done-clause-loaded g c = λ ended.
    let of = theory_here g.M.Matter.facts (g.Y.Theory.rules c.args.theory.now) c.args.pass.now
    c.steps.pass c.steps.invariant.on c.requires.theory in
    let has = c.steps.invariant.has in
    let told = rw c.in-Done.is at (c.in_ok-asked.ensures (history_of g.M.Matter.facts
    (g.Y.Theory.rules c.args.theory.now) (g.Y.Program.runs c.args.theory.now) c.args.task c.steps.pass
    c.steps.loader has) has.ready has.on) in
    (told.0, (of.known_of c.args.task ∙ told.1, told.2))

pub returns-in-Failed-clause-defines : goal.returns-in-Failed-clause-defines
returns-in-Failed-clause-defines g c = c.steps.invariant.on

pub returns-in-Failed-clause-loads : goal.returns-in-Failed-clause-loads
returns-in-Failed-clause-loads g c = c.steps.invariant.has.loads

pub returns-in-Failed-clause-failed : goal.returns-in-Failed-clause-failed
returns-in-Failed-clause-failed g c =
    let of = theory_here g.M.Matter.facts (g.Y.Theory.rules c.args.theory.now) c.args.pass.now
    c.steps.pass c.steps.invariant.on c.requires.theory in
    let has = c.steps.invariant.has in
    let told = rw c.in-Failed.is at (c.in_ok-asked.ensures (history_of g.M.Matter.facts
    (g.Y.Theory.rules c.args.theory.now) (g.Y.Program.runs c.args.theory.now) c.args.task c.steps.pass
    c.steps.loader has) has.ready has.on) in
    (of.known_of c.args.task ∙ told.0, told.1)
