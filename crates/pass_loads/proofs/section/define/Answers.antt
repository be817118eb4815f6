use Rattle.std.proofs.Common.{◌≡◌, ◌≤◌, ◌+◌, [], ◌∷◌, ◌++◌, ap, ◌∙◌, subst, arith}
use Rattle.system_events.specs.declared.event.Kept.TheVariants.{Define}
use Rattle.shop_base.specs.Passes.{Made}
use Rattle.shop.proofs.Turns.{made_later}
use Rattle.shop.proofs.Loads.{loads_later}
use Rattle.pass_loads.proofs.Rooms.{room_used, table_there, new_there, needed_there, known_there, loads_there}
use Rattle.pass_loads.proofs.section.define.Goals as goal

pub define-requires-clause-own : goal.define-requires-clause-own
define-requires-clause-own g c = ap (λ x. x.shop) c.in_ok-set_aside.ensures.ok ∙ c.requires.own

pub define-requires-clause-loads : goal.define-requires-clause-loads
define-requires-clause-loads g c = (
  c.requires.loads.0,
  (c.requires.loads.1.0, ap (λ x. x.row.seat) c.in_ok-set_aside.ensures.ok ∙ c.requires.loads.1.1),
)

pub define-requires-clause-room : goal.define-requires-clause-room
define-requires-clause-room g c =
    let more : c.set_aside.new.pass.row.entries ≡ c.args.pass.now.row.entries + 1 =
    ap (λ x. x.row.entries) c.in_ok-set_aside.ensures.ok in
    let enough : 4 ≤ c.args.pass.now.row.entries = c.requires.room in omega (arith, more, enough)

pub define-requires-clause-values : goal.define-requires-clause-values
define-requires-clause-values g c =
    let more : c.set_aside.new.pass.row.values ≡ c.args.pass.now.row.values + 1 =
    ap (λ x. x.row.values) c.in_ok-set_aside.ensures.ok in omega (arith, more)

pub define-requires-clause-new : goal.define-requires-clause-new
define-requires-clause-new g c =
    new_there g.M.Matter.facts g.met.M.Matter.same_is_equal c.args.pass.now c.set_aside.new.pass
    c.requires.loads.0 c.requires.loads.1.0 c.requires.pass c.set_aside.ensures.pass
    c.in_ok-set_aside.ensures.ok c.set_aside.ensures.seen c.requires.loads.1.1 c.args.task c.requires.lacks

pub define-requires-clause-needed : goal.define-requires-clause-needed
define-requires-clause-needed g c =
    needed_there g.M.Matter.facts g.met.M.Matter.same_is_equal c.args.pass.now c.set_aside.new.pass
    c.requires.loads.0 c.requires.loads.1.0 c.requires.pass c.set_aside.ensures.pass
    c.in_ok-set_aside.ensures.ok c.set_aside.ensures.seen c.requires.loads.1.1 c.args.task c.requires.needed

pub define-requires-clause-known : goal.define-requires-clause-known
define-requires-clause-known g c =
    known_there g.M.Matter.facts g.met.M.Matter.same_is_equal c.args.pass.now c.set_aside.new.pass
    c.requires.loads.0 c.requires.loads.1.0 c.requires.pass c.set_aside.ensures.pass
    c.in_ok-set_aside.ensures.ok c.set_aside.ensures.seen c.requires.loads.1.1 c.args.task c.args.value c.requires.known

pub returns-in_err-set_aside-clause-section : goal.returns-in_err-set_aside-clause-section
returns-in_err-set_aside-clause-section g c = λ sought loads.
    let err = c.in_err-set_aside.ensures.err in
    loads_later g.M.Matter.facts c.args.pass.now c.set_aside.new.pass sought c.requires.pass c.set_aside.ensures.pass
    c.set_aside.ensures.seen (ap (λ x. x.row.seat) err) (ap (λ x. x.number) err) loads

pub returns-clause-same : goal.returns-clause-same
returns-clause-same g c =
    room_used c.args.pass.now c.set_aside.new.pass c.define.new.pass c.in_ok-set_aside.ensures.ok
    c.define.ensures.same

pub returns-clause-made : goal.returns-clause-made
returns-clause-made g c =
    made_later c.args.pass.now.number (Define c.args.task) c.args.pass.now.seen c.set_aside.new.pass.seen
    c.define.new.pass.seen c.set_aside.ensures.seen
    (subst (λ n. Made n (Define c.args.task) c.set_aside.new.pass.seen c.define.new.pass.seen)
    (ap (λ x. x.number) c.in_ok-set_aside.ensures.ok) c.define.ensures.made)

pub returns-clause-table : goal.returns-clause-table
returns-clause-table g c =
    let table = table_there g.M.Matter.facts g.met.M.Matter.same_is_equal c.args.pass.now c.set_aside.new.pass
    c.requires.loads.0 c.requires.loads.1.0 c.requires.pass c.set_aside.ensures.pass
    c.in_ok-set_aside.ensures.ok c.set_aside.ensures.seen c.requires.loads.1.1 in
    c.define.ensures.table ∙ ap (λ t. t ++ (c.args.task, c.args.value) ∷ []) table

pub returns-clause-section : goal.returns-clause-section
returns-clause-section g c = λ sought loads.
    let later = loads_there g.M.Matter.facts g.met.M.Matter.same_is_equal c.args.pass.now c.set_aside.new.pass
    c.requires.loads.0 c.requires.loads.1.0 c.requires.pass c.set_aside.ensures.pass
    c.in_ok-set_aside.ensures.ok c.set_aside.ensures.seen c.requires.loads.1.1 sought loads in
    c.define.ensures.section sought later
