-- What a table gains by loads of several tasks, one after another.
use Rattle.std.proofs.Common.{◌≡◌, List, Option, Some, true, ◌⊎◌, inl, inr}
use Rattle.by_need.specs.Load.{Gains}
use Rattle.by_need.specs.Rounds.{Rules, Needs, is_in}
use Rattle.by_need.proofs.Rounds.{Part-refl, Part-trans}
use Rattle.by_need_loader.specs.Gained.{IsNeeded, GainsFor}

module _ {T V E O : Type 0} (r : Rules T V E O) (ts : List T) where
  -- a table gains nothing by itself
  pub gains_nothing : (K : T → Option V) → GainsFor r ts K K
  gains_nothing K = record { keeps = Part-refl K; needed = λ u v h. inl h }

  -- what one of the tasks needs is gained for them
  pub gains_more : (J K L : T → Option V) (t : T) → GainsFor r ts J K → is_in r t ts ≡ true → Gains r t K L →
      GainsFor r ts J L
  gains_more J K L t before among after = record {
    keeps = Part-trans before.keeps after.keeps;
    needed = λ u v h. at u v (after.needed u v h);
  }
    where
      at : (u : T) (v : V) → (K u ≡ Some v) ⊎ Needs r t u → (J u ≡ Some v) ⊎ IsNeeded r ts u
      at u v (inl was) = before.needed u v was
      at u v (inr needs) = inr (t, among, needs)
