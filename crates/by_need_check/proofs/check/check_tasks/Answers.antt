use Rattle.std.proofs.lemmas.List.{nil_from_length}
use Rattle.by_need_check.proofs.Each.{begins, gains_next, after_done, after_failed, all_loaded}
use Rattle.by_need_check.proofs.check.check_tasks.Goals as goal

pub tasks-init : goal.tasks-init
tasks-init g c = rw (c.new-defined.ensures.items, c.new-failed.ensures.items)
    (begins (g.Y.Theory.rules c.args.theory.now) (g.Y.Theory.laws c.args.theory.now) c.args.tasks.now
    (g.B.Table.at c.args.table.now)
    c.requires.part c.requires.tasks)

pub tasks-preserved-in-Done : goal.tasks-preserved-in-Done
tasks-preserved-in-Done g c =
    let amid = rw c.in-Some.ensures.cases.0 at c.tasks.invariant in
    let ends = rw (c.in-Done.is, c.in_ok-wanted.ensures) at c.in_ok-load_noting.ensures.ends in
    let order = rw (c.in-Done.is, c.in_ok-wanted.ensures) at c.in_ok-load_noting.ensures.order in
    let gained = rw c.in_ok-wanted.ensures at c.in_ok-load_noting.ensures.gains in
    after_done (g.Y.Theory.rules c.args.theory.now) (g.Y.Theory.laws c.args.theory.now) (g.B.Table.at c.args.table.now)
    (g.B.Table.at c.tasks.table)
    (g.B.Table.at c.load_noting.new.table) c.args.tasks.now c.in-Some.task.now c.in-Some.behind.now
    c.tasks.defined.items c.load_noting.new.noted.items c.tasks.failed.items order.0 ends.0 amid order.1
    c.in_ok-load_noting.ensures.part gained order.2 ends.1

pub tasks-preserved : goal.tasks-preserved
tasks-preserved g c =
    let amid = rw c.in-Some.ensures.cases.0 at c.tasks.invariant in
    let ends = rw (c.in-Failed.is, c.in_ok-wanted.ensures) at c.in_ok-load_noting.ensures.ends in
    let order = rw (c.in-Failed.is, c.in_ok-wanted.ensures) at c.in_ok-load_noting.ensures.order in
    let gained = rw c.in_ok-wanted.ensures at c.in_ok-load_noting.ensures.gains in
    rw c.in_ok-push-in-Failed.ensures.items (after_failed (g.Y.Theory.rules c.args.theory.now)
    (g.Y.Theory.laws c.args.theory.now)
    (g.B.Table.at c.args.table.now)
    (g.B.Table.at c.tasks.table) (g.B.Table.at c.load_noting.new.table)
    c.args.tasks.now c.in-Some.task.now c.in_ok-copy_task-in-Failed.field-0 c.in-Some.behind.now
    c.tasks.defined.items c.load_noting.new.noted.items c.tasks.failed.items order.0 c.in-Failed.failure amid
    order.1 c.in_ok-load_noting.ensures.part gained order.2 ends.0 ends.1 c.in_ok-copy_task-in-Failed.ensures)

pub returns-clause-failed : goal.returns-clause-failed
returns-clause-failed g c =
    let amid = rw (nil_from_length _ c.in_default.ensures.cases) at c.tasks.invariant in
    (all_loaded (g.Y.Theory.rules c.args.theory.now) (g.Y.Theory.laws c.args.theory.now) (g.B.Table.at c.args.table.now)
    (g.B.Table.at c.tasks.table)
    c.args.tasks.now c.tasks.defined.items c.tasks.failed.items amid).0

pub returns-clause-defined : goal.returns-clause-defined
returns-clause-defined g c =
    let amid = rw (nil_from_length _ c.in_default.ensures.cases) at c.tasks.invariant in
    (all_loaded (g.Y.Theory.rules c.args.theory.now) (g.Y.Theory.laws c.args.theory.now) (g.B.Table.at c.args.table.now)
    (g.B.Table.at c.tasks.table)
    c.args.tasks.now c.tasks.defined.items c.tasks.failed.items amid).1

pub returns-in_err-load_noting-clause-gains : goal.returns-in_err-load_noting-clause-gains
returns-in_err-load_noting-clause-gains g c =
    let amid = rw c.in-Some.ensures.cases.0 at c.tasks.invariant in
    let gained = rw c.in_ok-wanted.ensures at c.in_err-load_noting.ensures.gains in
    gains_next (g.Y.Theory.rules c.args.theory.now) (g.Y.Theory.laws c.args.theory.now)
    (g.B.Table.at c.args.table.now)
    (g.B.Table.at c.tasks.table) (g.B.Table.at c.load_noting.new.table)
    c.args.tasks.now c.in-Some.task.now c.in-Some.behind.now c.tasks.defined.items c.tasks.failed.items amid gained

pub returns-in_err-copy_task-in-Failed-clause-gains : goal.returns-in_err-copy_task-in-Failed-clause-gains
returns-in_err-copy_task-in-Failed-clause-gains g c =
    let amid = rw c.in-Some.ensures.cases.0 at c.tasks.invariant in
    let gained = rw c.in_ok-wanted.ensures at c.in_ok-load_noting.ensures.gains in
    gains_next (g.Y.Theory.rules c.args.theory.now) (g.Y.Theory.laws c.args.theory.now)
    (g.B.Table.at c.args.table.now)
    (g.B.Table.at c.tasks.table) (g.B.Table.at c.load_noting.new.table)
    c.args.tasks.now c.in-Some.task.now c.in-Some.behind.now c.tasks.defined.items c.tasks.failed.items amid gained

pub returns-in_err-push-in-Failed-clause-gains : goal.returns-in_err-push-in-Failed-clause-gains
returns-in_err-push-in-Failed-clause-gains g c =
    let amid = rw c.in-Some.ensures.cases.0 at c.tasks.invariant in
    let gained = rw c.in_ok-wanted.ensures at c.in_ok-load_noting.ensures.gains in
    gains_next (g.Y.Theory.rules c.args.theory.now) (g.Y.Theory.laws c.args.theory.now)
    (g.B.Table.at c.args.table.now)
    (g.B.Table.at c.tasks.table) (g.B.Table.at c.load_noting.new.table)
    c.args.tasks.now c.in-Some.task.now c.in-Some.behind.now c.tasks.defined.items c.tasks.failed.items amid gained
