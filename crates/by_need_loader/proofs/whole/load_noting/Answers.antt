use Rattle.std.proofs.Common.{◌∷◌, [], ◌++◌, lt_trans, sym, ◌∙◌}
use Rattle.std.proofs.lemmas.List.{append-nil}
use Rattle.by_need_loader.specs.Progress.{History, nothing_done}
use Rattle.by_need_loader.proofs.Goes.{begins}
use Rattle.by_need_loader.proofs.Turns.{gains_none, defines, defined_part, defined_gains}
use Rattle.by_need_loader.proofs.Notes.{noted_more}
use Rattle.by_need_loader.proofs.whole.load_noting.Goals as goal

pub steps-init : goal.steps-init
steps-init g c =
    let r = g.Y.Theory.rules c.args.theory.now in
    let J = g.B.Table.at c.args.table.now in
    rw c.begin-loader.ensures (record {
      ready = tt;
      at = record {
        made = [];
        on = begins r (g.Y.Program.runs c.args.theory.now) (g.Y.Theory.laws c.args.theory.now)
            (nothing_done c.args.task J) c.args.task J c.requires.task c.requires.part;
      };
      noted = sym (append-nil c.args.noted.now.items);
      part = c.requires.part;
      gains = gains_none r c.args.task J;
    })

pub steps-smaller-in-Look : goal.steps-smaller-in-Look
steps-smaller-in-Look g c =
    let h : History _ _ = record {
      wanted = c.args.task;
      at_first = g.B.Table.at c.args.table.now;
      made = c.steps.invariant.at.made;
      table = g.B.Table.at c.steps.table;
    } in
    let s = rw c.in-Look.is at (c.in_ok-asked.ensures h c.steps.invariant.ready c.steps.invariant.at.on) in
    let a = c.in_ok-answer-in-Look.ensures c.args.theory.now h
    (record { task = c.in-Look.asked; looks = s.0; is = c.defined.ensures })
    s.1 in
    lt_trans a.less s.2

pub steps-preserved-in-Look : goal.steps-preserved-in-Look
steps-preserved-in-Look g c =
    let h : History _ _ = record {
      wanted = c.args.task;
      at_first = g.B.Table.at c.args.table.now;
      made = c.steps.invariant.at.made;
      table = g.B.Table.at c.steps.table;
    } in
    let s = rw c.in-Look.is at (c.in_ok-asked.ensures h c.steps.invariant.ready c.steps.invariant.at.on) in
    let a = c.in_ok-answer-in-Look.ensures c.args.theory.now h
    (record { task = c.in-Look.asked; looks = s.0; is = c.defined.ensures })
    s.1 in
    record {
      ready = a.ready;
      at = record { made = h.made; on = a.on };
      noted = c.steps.invariant.noted;
      part = c.steps.invariant.part;
      gains = c.steps.invariant.gains;
    }

pub define-requires : goal.define-requires
define-requires g c =
    let h : History _ _ = record {
      wanted = c.args.task;
      at_first = g.B.Table.at c.args.table.now;
      made = c.steps.invariant.at.made;
      table = g.B.Table.at c.steps.table;
    } in
    let s = rw c.in-Define.is at (c.in_ok-asked.ensures h c.steps.invariant.ready c.steps.invariant.at.on) in
    s.1

pub steps-smaller : goal.steps-smaller
steps-smaller g c =
    let h : History _ _ = record {
      wanted = c.args.task;
      at_first = g.B.Table.at c.args.table.now;
      made = c.steps.invariant.at.made;
      table = g.B.Table.at c.steps.table;
    } in
    let s = rw c.in-Define.is at (c.in_ok-asked.ensures h c.steps.invariant.ready c.steps.invariant.at.on) in
    let r = g.Y.Theory.rules c.args.theory.now in
    let laws = g.Y.Theory.laws c.args.theory.now in
    let L = g.B.Table.at c.define.new.self in
    let e = c.in_ok-define-in-Define.ensures in
    let x = s.4 L (defines r laws c.args.task h.at_first h.table L c.in-Define.done c.in-Define.value s.1
    s.2 s.3 e.new e.old) in
    x.1

pub steps-preserved : goal.steps-preserved
steps-preserved g c =
    let h : History _ _ = record {
      wanted = c.args.task;
      at_first = g.B.Table.at c.args.table.now;
      made = c.steps.invariant.at.made;
      table = g.B.Table.at c.steps.table;
    } in
    let s = rw c.in-Define.is at (c.in_ok-asked.ensures h c.steps.invariant.ready c.steps.invariant.at.on) in
    let r = g.Y.Theory.rules c.args.theory.now in
    let laws = g.Y.Theory.laws c.args.theory.now in
    let L = g.B.Table.at c.define.new.self in
    let e = c.in_ok-define-in-Define.ensures in
    let x = s.4 L (defines r laws c.args.task h.at_first h.table L c.in-Define.done c.in-Define.value s.1
    s.2 s.3 e.new e.old) in
    record {
      ready = s.0;
      at = record {
        made = h.made ++ (c.in-Define.done, c.in-Define.value) ∷ [];
        on = x.0;
      };
      noted = c.in_ok-push-in-Define.ensures.items ∙ noted_more c.args.noted.now.items c.steps.noted.items h.made
          c.in-Define.done c.in_ok-copy_task-in-Define.field-0 c.in-Define.value c.steps.invariant.noted
          c.in_ok-copy_task-in-Define.ensures;
      part = defined_part r laws c.args.task h.at_first h.table L c.in-Define.done c.in-Define.value s.1
          s.2 s.3 e.new e.old c.steps.invariant.part;
      gains = defined_gains r laws c.args.task h.at_first h.table L c.in-Define.done c.in-Define.value s.1
          s.2 s.3 e.new e.old c.steps.invariant.gains;
    }

pub returns-in-Done-clause-ends : goal.returns-in-Done-clause-ends
returns-in-Done-clause-ends g c =
    let h : History _ _ = record {
      wanted = c.args.task;
      at_first = g.B.Table.at c.args.table.now;
      made = c.steps.invariant.at.made;
      table = g.B.Table.at c.steps.table;
    } in
    let s = rw c.in-Done.is at (c.in_ok-asked.ensures h c.steps.invariant.ready c.steps.invariant.at.on) in
    (s.0, s.1, s.2)

pub returns-in-Done-clause-order : goal.returns-in-Done-clause-order
returns-in-Done-clause-order g c =
    let h : History _ _ = record {
      wanted = c.args.task;
      at_first = g.B.Table.at c.args.table.now;
      made = c.steps.invariant.at.made;
      table = g.B.Table.at c.steps.table;
    } in
    let s = rw c.in-Done.is at (c.in_ok-asked.ensures h c.steps.invariant.ready c.steps.invariant.at.on) in
    (h.made, s.3, c.steps.invariant.noted)

pub returns-in-Failed-clause-ends : goal.returns-in-Failed-clause-ends
returns-in-Failed-clause-ends g c =
    let h : History _ _ = record {
      wanted = c.args.task;
      at_first = g.B.Table.at c.args.table.now;
      made = c.steps.invariant.at.made;
      table = g.B.Table.at c.steps.table;
    } in
    let s = rw c.in-Failed.is at (c.in_ok-asked.ensures h c.steps.invariant.ready c.steps.invariant.at.on) in
    (s.0, s.1)

pub returns-in-Failed-clause-order : goal.returns-in-Failed-clause-order
returns-in-Failed-clause-order g c =
    let h : History _ _ = record {
      wanted = c.args.task;
      at_first = g.B.Table.at c.args.table.now;
      made = c.steps.invariant.at.made;
      table = g.B.Table.at c.steps.table;
    } in
    let s = rw c.in-Failed.is at (c.in_ok-asked.ensures h c.steps.invariant.ready c.steps.invariant.at.on) in
    (h.made, s.2, c.steps.invariant.noted)

pub returns-in_err-define-in-Define-clause-part : goal.returns-in_err-define-in-Define-clause-part
returns-in_err-define-in-Define-clause-part g c = rw c.in_err-define-in-Define.ensures.err c.steps.invariant.part

pub returns-in_err-define-in-Define-clause-gains : goal.returns-in_err-define-in-Define-clause-gains
returns-in_err-define-in-Define-clause-gains g c = rw c.in_err-define-in-Define.ensures.err c.steps.invariant.gains
