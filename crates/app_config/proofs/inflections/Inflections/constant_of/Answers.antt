use Rattle.std.proofs.Common.{ℕ, List, Option, length, subst, sym}
use Rattle.app_config.specs.Inflections.{LacksBase, IsLastFor}
use Rattle.app_config.specs.Indexes.Places.{IsLastPlace}
use Rattle.app_config.proofs.PlaceLaws.{IsLastFor-place}
use Rattle.app_config.proofs.inflections.Inflections.constant_of.Goals as goal

pub at-requires : goal.at-requires
at-requires c =
    let pairs = c.self.inside.pairs.now in
    let P : Option ℕ → Type 0 = λ found. IsLastPlace (length pairs) pairs c.args.base.now found in
    (subst P (sym c.in-Some.ensures.value) (c.self.invariant c.args.base.now)).0

pub returns-in-None : goal.returns-in-None
returns-in-None c =
    let pairs = c.self.inside.pairs.now in
    let P : Option ℕ → Type 0 = λ found. IsLastPlace (length pairs) pairs c.args.base.now found in
    let Q : List (List ℕ × List ℕ) → Type 0 = λ all. LacksBase all c.args.base.now in
    subst Q c.self.view_is (subst P (sym c.in-None.ensures.value) (c.self.invariant c.args.base.now))

pub returns-in-Some : goal.returns-in-Some
returns-in-Some c =
    let pairs = c.self.inside.pairs.now in
    let P : Option ℕ → Type 0 = λ found. IsLastPlace (length pairs) pairs c.args.base.now found in
    let Q : List (List ℕ × List ℕ) → Type 0 = λ all. IsLastFor all c.args.base.now c.at.result.now.1 in
    subst Q c.self.view_is (IsLastFor-place pairs c.args.base.now c.in-Some.place.now c.at.result.now
    (subst P (sym c.in-Some.ensures.value) (c.self.invariant c.args.base.now)) c.at.ensures)
