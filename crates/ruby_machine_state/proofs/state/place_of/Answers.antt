use Rattle.std.proofs.Common.{◌≡◌, ◌∷◌, [], List, Bool, refl, sym, ap, ◌∙◌, arith}
use Rattle.std.specs.Prelude.{bytes_eq}
use Rattle.ruby_types.specs.declared.value.Value.{Value}
use Rattle.ruby_types.specs.declared.value.Value.TheVariants.{Sym}
use Rattle.program_places.specs.Paths.{Name}
use Rattle.ruby_runs.specs.Bodies as spec
use Rattle.ruby_machine_state.specs.States.{has_name}
use Rattle.ruby_machine_state.proofs.Variables.{assigned_at, assigned_later, assigned_behind}
use Rattle.ruby_machine_state.proofs.state.place_of.Goals as goal

pub returns-then-same_name : goal.returns-then-same_name
returns-then-same_name c = (
  omega (arith, c.locals-test.true),
  λ v. (assigned_at (λ l. spec.with_local l
      c.args.name.now v) (λ x. bytes_eq x.0 c.args.name.now) (λ x. (c.args.name.now, v)) (λ x rest. refl)
      c.args.locals.now c.locals.place c.index-locals-place.result (omega (arith, c.locals-test.true))
      c.index-locals-place.is (ap (λ x. bytes_eq x.0 c.args.name.now) c.index-locals-place.is ∙ (sym
      c.same_name.ensures ∙ c.if-same_name.true)) (c.locals.invariant v)),
)

pub locals-preserved : goal.locals-preserved
locals-preserved c v = assigned_later (λ l. spec.with_local l c.args.name.now v) (λ x. bytes_eq x.0 c.args.name.now)
    (λ x. (c.args.name.now, v)) (λ x rest. refl) c.args.locals.now c.locals.place c.index-locals-place.result (omega
    (arith, c.locals-test.true)) c.index-locals-place.is (ap (λ x. bytes_eq x.0 c.args.name.now)
    c.index-locals-place.is ∙ (sym c.same_name.ensures ∙ c.if-same_name.false)) (c.locals.invariant v)

pub returns : goal.returns
returns c v = assigned_behind (λ l. spec.with_local l c.args.name.now v) (λ x. bytes_eq x.0 c.args.name.now) (λ x.
    (c.args.name.now, v)) (λ x rest. refl) c.args.locals.now c.locals.place ((c.args.name.now, v)) refl (omega
    (arith, c.locals-test.false)) (c.locals.invariant v)
