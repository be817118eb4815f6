-- What an edit leaves of a tree in memory.
use Rattle.std.proofs.Common.{◌≡◌, ℕ, List, Bool, true, false, Result, Ok, Err, refl, ap}
use Rattle.std.specs.Prelude.{◌↔◌, IsTrue, OnOk, OnErr}
use Rattle.outside.specs.CallState.{CallState}
use Rattle.outside.specs.MemTree.{TreeState, Writes}
use Rattle.outside.specs.Watched.{IsWatched}

-- a write leaves the calls of the tree
pub calls_stay : {E : Type 0} (watched : Bool) (result : Result Unit E) (path bytes : List ℕ) (old new : TreeState) →
    IsTrue watched ↔ IsWatched path → OnOk result (Writes path bytes old new) → OnErr result (new ≡ old) →
    new.calls ≡ old.calls
calls_stay true (Ok done) path bytes old new is ok err = ap (λ (t : TreeState). t.calls) (ok.watched (is.0 refl))
calls_stay false (Ok done) path bytes old new is ok err =
    ap (λ (t : TreeState). t.calls) (ok.other (λ watched. absurd (cc (is.1 watched))))
calls_stay _ (Err error) path bytes old new is ok err = ap (λ (t : TreeState). t.calls) err
