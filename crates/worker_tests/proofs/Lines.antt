-- What serving a letter adds.
use Rattle.std.proofs.Common.{◌≡◌, ℕ, false, List, [], ◌∷◌, ◌++◌, Option, refl, sym, subst, append-nil}
use Rattle.connection_items.specs.Exchanges.{Added, Standing}
use Rattle.worker.specs.Serves.{IsLeftOutHead, Enters}
use Rattle.worker.specs.declared.serves_heads.Entered.TheVariants.{Done}
use Rattle.worker_tests.specs.Line.{line_rules, standing_of}

-- a letter that is left out adds nothing
pub left_out : (items : List ℕ) (before : Standing ℕ ℕ ℕ) (letter : ℕ) (limit : Option ℕ) →
    before ≡ standing_of items → IsLeftOutHead line_rules letter limit before (standing_of items)
left_out items before letter limit e =
    subst (λ b. IsLeftOutHead line_rules letter limit b (standing_of items)) (sym e) (
      record { entries = []; given = []; reloaded = false },
      record {
        adds = record {
          items = sym (append-nil items);
          entries = sym (append-nil items);
          given = refl;
          hooks = refl;
          seen = ([], sym (append-nil items));
        };
        shortfall = tt;
      },
    )

-- a letter that is served is an item and an entry
pub served : (items now : List ℕ) (before : Standing ℕ ℕ ℕ) (letter item : ℕ) (receipt : Option ℕ) →
    now ≡ items ++ item ∷ [] → before ≡ standing_of items → item ≡ letter →
    Enters line_rules (Done receipt) letter item before (standing_of now)
served items now before letter item receipt more e same =
    subst (λ b. Enters line_rules (Done receipt) letter item b (standing_of now)) (sym e) (
      record { entries = item ∷ []; given = []; reloaded = false },
      record {
        adds = record {
          items = more;
          entries = more;
          given = refl;
          hooks = refl;
          seen = (item ∷ [], more);
        };
        promise = same;
      },
    )
