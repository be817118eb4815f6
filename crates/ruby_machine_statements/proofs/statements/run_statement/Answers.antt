use Rattle.std.proofs.Common.{◌+◌, arith}
use Rattle.ruby_machine_frames.specs.Rest.{load}
use Rattle.ruby_machine_statements.specs.declared.node.Statement.TheVariants as statement
use Rattle.ruby_machine_statements.proofs.Kept.{kept_statement, kept_raise}
use Rattle.ruby_machine_statements.proofs.statements.run_statement.Goals as goal

pub returns-in-Expr : goal.returns-in-Expr
returns-in-Expr c i =
    let k = c.args.nodes.now in
    let m = c.args.core.now in
    kept_statement i k m c.push_eval.result c.push_eval.new.self c.args.statement
    (statement.Expr c.in-Expr.expr c.in-Expr.next) (load m + 5) c.in-Expr.is (omega arith) (c.push_eval.ensures i k)

pub returns-in_ok-copy-in-Set : goal.returns-in_ok-copy-in-Set
returns-in_ok-copy-in-Set c i =
    let k = c.args.nodes.now in
    let m = c.args.core.now in
    kept_statement i k m c.turn_eval.result c.turn_eval.new.self c.args.statement
    (statement.Set c.in-Set.name c.in-Set.expr c.in-Set.next) (load m) c.in-Set.is (omega arith)
    (rw c.in_ok-copy-in-Set.ensures at (c.turn_eval.ensures i k))

pub returns-in_ok-copy-in-SetIvar : goal.returns-in_ok-copy-in-SetIvar
returns-in_ok-copy-in-SetIvar c i =
    let k = c.args.nodes.now in
    let m = c.args.core.now in
    kept_statement i k m c.turn_eval-in-SetIvar.result c.turn_eval-in-SetIvar.new.self c.args.statement
    (statement.SetIvar c.in-SetIvar.name c.in-SetIvar.expr c.in-SetIvar.next) (load m) c.in-SetIvar.is (omega arith)
    (rw c.in_ok-copy-in-SetIvar.ensures at (c.turn_eval-in-SetIvar.ensures i k))

pub returns-in-Return : goal.returns-in-Return
returns-in-Return c i =
    let k = c.args.nodes.now in
    let m = c.args.core.now in
    kept_statement i k m c.turn_eval-in-Return.result c.turn_eval-in-Return.new.self c.args.statement
    (statement.Return c.in-Return.expr c.in-Return.field-1) (load m) c.in-Return.is (omega arith)
    (c.turn_eval-in-Return.ensures i k)

pub returns-in-ReturnNil : goal.returns-in-ReturnNil
returns-in-ReturnNil c i =
    let k = c.args.nodes.now in
    let m = c.args.core.now in
    kept_statement i k m c.returns_nil.result c.returns_nil.new.core c.args.statement
    (statement.ReturnNil c.in-ReturnNil.field-0) (load m) c.in-ReturnNil.is (omega arith) (c.returns_nil.ensures i k)

pub returns-in-Raise : goal.returns-in-Raise
returns-in-Raise c i =
    kept_raise i c.args.nodes.now c.args.core.now c.turn_eval-in-Raise.result c.turn_eval-in-Raise.new.self
    c.args.statement c.in-Raise.expr c.in-Raise.field-1 c.in-Raise.is
    (c.turn_eval-in-Raise.ensures i c.args.nodes.now)

pub returns-in-If : goal.returns-in-If
returns-in-If c i =
    let k = c.args.nodes.now in
    let m = c.args.core.now in
    kept_statement i k m c.begin_if.result c.begin_if.new.core c.args.statement
    (statement.If c.in-If.arms c.in-If.other c.in-If.field-2 c.in-If.next) (load m + 6) c.in-If.is (omega arith)
    (c.begin_if.ensures i)
