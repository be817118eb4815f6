use Rattle.std.proofs.Common.{◌≡◌, ◌∷◌, [], List, Bool, refl, sym, ap, subst, ◌∙◌, arith}
use Rattle.std.specs.Prelude.{bytes_eq, slice_set}
use Rattle.std.proofs.lemmas.Option.{get_or_from_slice_get}
use Rattle.ruby_types.specs.declared.value.Value.{Value}
use Rattle.ruby_types.specs.declared.value.Value.TheVariants.{Sym}
use Rattle.program_places.specs.Paths.{Name}
use Rattle.ruby_runs.specs.Bodies as spec
use Rattle.ruby_machine_state.specs.States.{has_name}
use Rattle.ruby_machine_state.proofs.Variables.{assigned_at, assigned_later, assigned_behind}
use Rattle.ruby_machine_state.proofs.state.variable_place.Goals as goal

pub returns-then-is_named : goal.returns-then-is_named
returns-then-is_named c = (
  omega (arith, c.variables-test.true),
  λ pair v is. subst (λ p. spec.set_pair c.args.variables.now
      c.args.name.now v ≡ slice_set c.args.variables.now c.variables.place (p.0, v))
      (c.index-variables-place.is ∙ get_or_from_slice_get c.args.variables.now c.variables.place pair
      c.index-variables-place.result is)
      (assigned_at (λ l. spec.set_pair l c.args.name.now v) (λ x. has_name x.0 c.args.name.now) (λ x. (x.0, v)) (λ x
      rest. refl) c.args.variables.now c.variables.place c.index-variables-place.result (omega (
        arith,
        c.variables-test.true,
      )) c.index-variables-place.is (ap (λ x. has_name x.0 c.args.name.now)
      c.index-variables-place.is ∙ (sym c.is_named.ensures ∙ c.if-is_named.true)) (c.variables.invariant v)),
)

pub variables-preserved : goal.variables-preserved
variables-preserved c v = assigned_later (λ l. spec.set_pair l c.args.name.now v) (λ x. has_name x.0 c.args.name.now)
    (λ x. (x.0, v)) (λ x rest. refl) c.args.variables.now c.variables.place c.index-variables-place.result (omega
    (arith, c.variables-test.true)) c.index-variables-place.is (ap (λ x. has_name x.0 c.args.name.now)
    c.index-variables-place.is ∙ (sym c.is_named.ensures ∙ c.if-is_named.false)) (c.variables.invariant v)

pub returns : goal.returns
returns c v = assigned_behind (λ l. spec.set_pair l c.args.name.now v) (λ x. has_name x.0 c.args.name.now) (λ x.
    (x.0, v)) (λ x rest. refl) c.args.variables.now c.variables.place ((Sym c.args.name.now, v)) refl (omega (
      arith,
      c.variables-test.false,
    )) (c.variables.invariant v)
