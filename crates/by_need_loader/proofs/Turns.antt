-- The turns of a whole load.
use Rattle.std.proofs.Common.{◌≡◌, Option, Some, None, Bool, true, false, ◌⊎◌, inl, inr, refl, sym, ◌∙◌, subst}
use Rattle.std.proofs.lemmas.Bool.{false≢true}
use Rattle.by_need.specs.Rounds.{Rules, Part, Needs, known}
use Rattle.by_need.specs.Laws.{Lawful}
use Rattle.by_need.specs.Load.{Defines, Gains}
use Rattle.by_need.proofs.Rounds.{Part-refl, Part-trans}
use Rattle.by_need.proofs.Loads.{defines_part, defines_grows}

-- a table gains nothing by itself
pub gains_none : {T V E O : Type 0} (r : Rules T V E O) (task : T) (K : T → Option V) → Gains r task K K
gains_none r task K = record { keeps = Part-refl K; needed = λ u v h. inl h }

module _ {T V E O : Type 0} (r : Rules T V E O) (laws : Lawful r) (task : T) (J K L : T → Option V) (u : T) (v : V)
    (none : K u ≡ None) (kn : known r u ≡ Some v) (needs : Needs r task u) (new : L u ≡ Some v) (old : (x : T) →
    (x ≡ u → ⊥) → L x ≡ K x) where
  -- the table has one value more
  pub defines : Defines r K u v L
  defines = record {
    new = new;
    old = λ x h.
        old x (λ e. false≢true (sym h ∙ subst (λ y. r.same x y ≡ true) e (laws.same_self x)));
  }

  -- it is still part of what is known
  pub defined_part : Part K (known r) → Part L (known r)
  defined_part p = defines_part r laws K L u v p kn defines

  -- and has gained only what is needed
  pub defined_gains : Gains r task J K → Gains r task J L
  defined_gains g = record {
    keeps = Part-trans g.keeps (defines_grows r laws K L u v none defines);
    needed = λ x w h. at x w h (r.same x u) refl;
  }
    where
      at : (x : T) (w : V) → L x ≡ Some w → (b : Bool) → r.same x u ≡ b → (J x ≡ Some w) ⊎ Needs r task x
      at x w h true e = inr (subst (Needs r task) (sym (laws.same_is x u e)) needs)
      at x w h false e = g.needed x w (sym (defines.old x e) ∙ h)
