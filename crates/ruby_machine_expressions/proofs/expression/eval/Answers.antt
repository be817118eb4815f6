use Rattle.std.proofs.Common.{◌≡◌, [], false, refl, sym, ap, ◌∙◌, subst}
use Rattle.ruby_nodes.specs.Entries.{entry_at, no_entry}
use Rattle.ruby_nodes.specs.declared.table.Node.TheVariants as nd
use Rattle.ruby_types.specs.declared.value.Value.TheVariants as value
use Rattle.ruby_runs.specs.Bodies.{local_of, ivar_of}
use Rattle.ruby_machine_names.specs.Steps.{here_of}
use Rattle.ruby_machine_state.specs.States.{state_of}
use Rattle.ruby_machine_frames.specs.Rest.{KeptFrom, gives_of, load}
use Rattle.ruby_machine_frames.proofs.Levels.{not_expr}
use Rattle.ruby_machine_frames.proofs.Steps.{kept_none}
use Rattle.ruby_machine_values.specs.Beginning.{begins}
use Rattle.ruby_machine_collections.specs.Collecting.{items_left, pairs_left, parts_left}
use Rattle.ruby_machine_expressions.proofs.Evaluating.{const_begins, level_kept, value_kept}
use Rattle.ruby_machine_expressions.proofs.expression.eval.Goals as goal

pub returns-in-True : goal.returns-in-True
returns-in-True g c =
    let i = g.P.Lookups.index c.args.program.now in
    let k = g.P.Lookups.entries c.args.program.now in
    let m = c.args.core.now in
    value_kept i k c.nodes-nodes.result.now m c.args.at c.in-Some.node.now c.nodes-nodes.ensures
    c.in-Some.ensures.stands
    c.turn_gives-in-True.result c.turn_gives-in-True.new.self nd.True value.True value.True c.in-True.is refl refl
    (c.turn_gives-in-True.ensures i k)

pub returns-in-False : goal.returns-in-False
returns-in-False g c =
    let i = g.P.Lookups.index c.args.program.now in
    let k = g.P.Lookups.entries c.args.program.now in
    let m = c.args.core.now in
    value_kept i k c.nodes-nodes.result.now m c.args.at c.in-Some.node.now c.nodes-nodes.ensures
    c.in-Some.ensures.stands
    c.turn_gives-in-False.result c.turn_gives-in-False.new.self nd.False value.False value.False c.in-False.is refl
    refl (c.turn_gives-in-False.ensures i k)

pub returns-in-Int : goal.returns-in-Int
returns-in-Int g c =
    let i = g.P.Lookups.index c.args.program.now in
    let k = g.P.Lookups.entries c.args.program.now in
    let m = c.args.core.now in
    value_kept i k c.nodes-nodes.result.now m c.args.at c.in-Some.node.now c.nodes-nodes.ensures
    c.in-Some.ensures.stands
    c.turn_gives-in-Int.result c.turn_gives-in-Int.new.self (nd.Int c.in-Int.number) c.integer.result
    (value.Int c.in-Int.number) c.in-Int.is refl c.integer.ensures (c.turn_gives-in-Int.ensures i k)

pub returns-in_ok-copy-in-Sym : goal.returns-in_ok-copy-in-Sym
returns-in_ok-copy-in-Sym g c =
    let i = g.P.Lookups.index c.args.program.now in
    let k = g.P.Lookups.entries c.args.program.now in
    let m = c.args.core.now in
    value_kept i k c.nodes-nodes.result.now m c.args.at c.in-Some.node.now c.nodes-nodes.ensures
    c.in-Some.ensures.stands
    c.turn_gives-in-Sym.result c.turn_gives-in-Sym.new.self (nd.Sym c.in-Sym.name) (value.Sym
    c.in_ok-copy-in-Sym.field-0) (value.Sym c.in-Sym.name) c.in-Sym.is refl (ap value.Sym c.in_ok-copy-in-Sym.ensures)
    (c.turn_gives-in-Sym.ensures i k)

pub returns-in_ok-itself-in-SelfRef : goal.returns-in_ok-itself-in-SelfRef
returns-in_ok-itself-in-SelfRef g c =
    let i = g.P.Lookups.index c.args.program.now in
    let k = g.P.Lookups.entries c.args.program.now in
    let m = c.args.core.now in
    value_kept i k c.nodes-nodes.result.now m c.args.at c.in-Some.node.now c.nodes-nodes.ensures
    c.in-Some.ensures.stands
    c.turn_gives-in-SelfRef.result c.turn_gives-in-SelfRef.new.self nd.SelfRef c.in_ok-itself-in-SelfRef.itself
    m.state.itself c.in-SelfRef.is refl c.in_ok-itself-in-SelfRef.ensures (c.turn_gives-in-SelfRef.ensures i k)

pub returns-in_ok-value-in-Local : goal.returns-in_ok-value-in-Local
returns-in_ok-value-in-Local g c =
    let i = g.P.Lookups.index c.args.program.now in
    let k = g.P.Lookups.entries c.args.program.now in
    let m = c.args.core.now in
    value_kept i k c.nodes-nodes.result.now m c.args.at c.in-Some.node.now c.nodes-nodes.ensures
    c.in-Some.ensures.stands
    c.turn_gives-in-Local.result c.turn_gives-in-Local.new.self (nd.Local c.in-Local.name)
    c.in_ok-value-in-Local.value (local_of m.state.locals.items c.in-Local.name) c.in-Local.is refl
    (c.in_ok-value-in-Local.ensures ∙ ap (λ l. local_of l c.in-Local.name) c.as_slice.ensures.value)
    (c.turn_gives-in-Local.ensures i k)

pub returns-in_ok-value-in-Ivar : goal.returns-in_ok-value-in-Ivar
returns-in_ok-value-in-Ivar g c =
    let i = g.P.Lookups.index c.args.program.now in
    let k = g.P.Lookups.entries c.args.program.now in
    let m = c.args.core.now in
    value_kept i k c.nodes-nodes.result.now m c.args.at c.in-Some.node.now c.nodes-nodes.ensures
    c.in-Some.ensures.stands
    c.turn_gives-in-Ivar.result c.turn_gives-in-Ivar.new.self (nd.Ivar c.in-Ivar.name) c.in_ok-value-in-Ivar.value
    (ivar_of m.state.itself c.in-Ivar.name) c.in-Ivar.is refl c.in_ok-value-in-Ivar.ensures
    (c.turn_gives-in-Ivar.ensures i k)

pub returns-in-Const : goal.returns-in-Const
returns-in-Const g c =
    let i = g.P.Lookups.index c.args.program.now in
    let k = g.P.Lookups.entries c.args.program.now in
    let m = c.args.core.now in
    level_kept i k c.nodes-nodes.result.now m c.args.at c.in-Some.node.now c.nodes-nodes.ensures
    c.in-Some.ensures.stands
    c.begin_constant.result c.begin_constant.new.core (nd.Const c.in-Const.constant) c.in-Const.is
    (subst (λ b. KeptFrom i k b (load m) c.begin_constant.result c.begin_constant.new.core)
    (sym (const_begins i k m c.in-Const.constant)) c.begin_constant.ensures)

pub returns-in-Not : goal.returns-in-Not
returns-in-Not g c =
    let i = g.P.Lookups.index c.args.program.now in
    let k = g.P.Lookups.entries c.args.program.now in
    let m = c.args.core.now in
    level_kept i k c.nodes-nodes.result.now m c.args.at c.in-Some.node.now c.nodes-nodes.ensures
    c.in-Some.ensures.stands
    c.turn_eval.result c.turn_eval.new.self (nd.Not c.in-Not.operand) c.in-Not.is (c.turn_eval.ensures i k)

pub returns-in-And : goal.returns-in-And
returns-in-And g c =
    let i = g.P.Lookups.index c.args.program.now in
    let k = g.P.Lookups.entries c.args.program.now in
    let m = c.args.core.now in
    level_kept i k c.nodes-nodes.result.now m c.args.at c.in-Some.node.now c.nodes-nodes.ensures
    c.in-Some.ensures.stands
    c.turn_eval-in-And.result c.turn_eval-in-And.new.self (nd.And c.in-And.left c.in-And.right) c.in-And.is
    (c.turn_eval-in-And.ensures i k)

pub returns-in-Or : goal.returns-in-Or
returns-in-Or g c =
    let i = g.P.Lookups.index c.args.program.now in
    let k = g.P.Lookups.entries c.args.program.now in
    let m = c.args.core.now in
    level_kept i k c.nodes-nodes.result.now m c.args.at c.in-Some.node.now c.nodes-nodes.ensures
    c.in-Some.ensures.stands
    c.turn_eval-in-Or.result c.turn_eval-in-Or.new.self (nd.Or c.in-Or.left c.in-Or.right) c.in-Or.is
    (c.turn_eval-in-Or.ensures i k)

pub returns-in-Choose : goal.returns-in-Choose
returns-in-Choose g c =
    let i = g.P.Lookups.index c.args.program.now in
    let k = g.P.Lookups.entries c.args.program.now in
    let m = c.args.core.now in
    level_kept i k c.nodes-nodes.result.now m c.args.at c.in-Some.node.now c.nodes-nodes.ensures
    c.in-Some.ensures.stands
    c.turn_eval-in-Choose.result c.turn_eval-in-Choose.new.self (nd.Choose c.in-Choose.test c.in-Choose.taken
    c.in-Choose.other) c.in-Choose.is (c.turn_eval-in-Choose.ensures i k)

pub returns-in-Str : goal.returns-in-Str
returns-in-Str g c =
    let i = g.P.Lookups.index c.args.program.now in
    let k = g.P.Lookups.entries c.args.program.now in
    let m = c.args.core.now in
    level_kept i k c.nodes-nodes.result.now m c.args.at c.in-Some.node.now c.nodes-nodes.ensures
    c.in-Some.ensures.stands
    c.begin_text.result c.begin_text.new.core (nd.Str c.in-Str.first) c.in-Str.is
    (subst (λ x. KeptFrom i x (begins (parts_left i x c.in-Str.first false []) m) (load m) c.begin_text.result
    c.begin_text.new.core)
    c.nodes-nodes.ensures (c.begin_text.ensures i))

pub returns-in-Array : goal.returns-in-Array
returns-in-Array g c =
    let i = g.P.Lookups.index c.args.program.now in
    let k = g.P.Lookups.entries c.args.program.now in
    let m = c.args.core.now in
    level_kept i k c.nodes-nodes.result.now m c.args.at c.in-Some.node.now c.nodes-nodes.ensures
    c.in-Some.ensures.stands
    c.begin_array.result c.begin_array.new.core (nd.Array c.in-Array.first) c.in-Array.is
    (subst (λ x. KeptFrom i x (begins (items_left i x c.in-Array.first []) m) (load m) c.begin_array.result
    c.begin_array.new.core)
    c.nodes-nodes.ensures (c.begin_array.ensures i))

pub returns-in-Hash : goal.returns-in-Hash
returns-in-Hash g c =
    let i = g.P.Lookups.index c.args.program.now in
    let k = g.P.Lookups.entries c.args.program.now in
    let m = c.args.core.now in
    level_kept i k c.nodes-nodes.result.now m c.args.at c.in-Some.node.now c.nodes-nodes.ensures
    c.in-Some.ensures.stands
    c.begin_hash.result c.begin_hash.new.core (nd.Hash c.in-Hash.first) c.in-Hash.is
    (subst (λ x. KeptFrom i x (begins (pairs_left i x c.in-Hash.first []) m) (load m) c.begin_hash.result
    c.begin_hash.new.core)
    c.nodes-nodes.ensures (c.begin_hash.ensures i))

pub returns-in_ok-copy-in-Call : goal.returns-in_ok-copy-in-Call
returns-in_ok-copy-in-Call g c =
    let i = g.P.Lookups.index c.args.program.now in
    let k = g.P.Lookups.entries c.args.program.now in
    let m = c.args.core.now in
    level_kept i k c.nodes-nodes.result.now m c.args.at c.in-Some.node.now c.nodes-nodes.ensures
    c.in-Some.ensures.stands
    c.turn_eval-in-Call.result c.turn_eval-in-Call.new.self (nd.Call c.in-Call.on c.in-Call.name c.in-Call.first)
    c.in-Call.is (rw c.in_ok-copy-in-Call.ensures at c.turn_eval-in-Call.ensures i k)

pub returns-in-OwnCall : goal.returns-in-OwnCall
returns-in-OwnCall g c =
    let i = g.P.Lookups.index c.args.program.now in
    let k = g.P.Lookups.entries c.args.program.now in
    let m = c.args.core.now in
    level_kept i k c.nodes-nodes.result.now m c.args.at c.in-Some.node.now c.nodes-nodes.ensures
    c.in-Some.ensures.stands
    c.begin_own_call.result c.begin_own_call.new.core (nd.OwnCall c.in-OwnCall.name c.in-OwnCall.first)
    c.in-OwnCall.is c.begin_own_call.ensures

pub returns-in_default : goal.returns-in_default
returns-in_default g c =
    let i = g.P.Lookups.index c.args.program.now in
    let k = g.P.Lookups.entries c.args.program.now in
    kept_none i k c.args.core.now c.turn_gives.result c.turn_gives.new.self c.args.at
    (subst (λ x. entry_at x c.args.at ≡ no_entry) c.nodes-nodes.ensures c.in_default.ensures.stands)
    (c.turn_gives.ensures i k)

pub returns-in_default-node : goal.returns-in_default-node
returns-in_default-node g c =
    let i = g.P.Lookups.index c.args.program.now in
    let k = g.P.Lookups.entries c.args.program.now in
    let m = c.args.core.now in
    let n = c.in-Some.node.now in
    let d = c.in_default-node in
    level_kept i k c.nodes-nodes.result.now m c.args.at n c.nodes-nodes.ensures c.in-Some.ensures.stands
    c.turn_gives-in_default-node.result c.turn_gives-in_default-node.new.self n refl
    (subst (λ e. KeptFrom i k (e (state_of m.state) m.turns (gives_of i k m)) (load m)
    c.turn_gives-in_default-node.result c.turn_gives-in_default-node.new.self)
    (sym (not_expr i k m.left (here_of m.here) n d.not-True d.not-False d.not-Int d.not-Sym d.not-SelfRef d.not-Local
    d.not-Ivar d.not-Const d.not-Not d.not-And d.not-Or d.not-Choose d.not-Str d.not-Array d.not-Hash d.not-Call
    d.not-OwnCall)) (c.turn_gives-in_default-node.ensures i k))
