-- A guard that refuses goes before all that follow it, and where none refuses none of a shorter row does.
use Rattle.std.proofs.Common.{◌≡◌, ◌==◌, Bool, true, false, not, ◌&&◌, if◌then◌else◌, Option, Some, None, sym, ap}
use Rattle.std.proofs.Common.{◌∙◌}
use Rattle.std.proofs.lemmas.Bool.{and_parts, not-false}
use Rattle.std.proofs.lemmas.Option.{none-some}
use Rattle.share_lock.specs.declared.seat.Phase.{Phase}
use Rattle.share_lock.specs.declared.seat.Phase.TheVariants.{Calm, Seeking, Releasing}
use Rattle.share_lock.specs.declared.seat.Row.{Row}
use Rattle.share_lock.specs.Rows.{holds_shares}
use Rattle.system_seats.specs.declared.guard.Guard.{Guard}
use Rattle.system_seats.specs.declared.guard.Guard.TheVariants.{NoShare, Exclusive, Running, NotRunning, InTable}
use Rattle.system_seats.specs.declared.guard.Guard.TheVariants.{WrongWant}
use Rattle.system_seats.specs.declared.guard.Purpose.{Purpose}
use Rattle.system_seats.specs.declared.guard.Purpose.TheVariants.{Load, Unload}
use Rattle.system_seats.specs.Seats.{is_calm, purpose_bit}
use Rattle.system_seats.specs.Guards.{◌when◌else◌, own_want, own_seek, own_take, seeks_this}
use Rattle.system_seats.proofs.From.{guard_false}

-- the first guard is the same, and the others refuse alike
then_same : (b : Bool) (x g : Guard) (p q : Option Guard) → (p ≡ Some g → q ≡ Some g) → (x when b else p) ≡ Some g →
    (x when b else q) ≡ Some g
then_same true x g p q others is = is
then_same false x g p q others is = others is

if_same : (b : Bool) (g : Guard) (p q p' q' : Option Guard) → (p ≡ Some g → p' ≡ Some g) →
    (q ≡ Some g → q' ≡ Some g) → (if b then p else q) ≡ Some g → (if b then p' else q') ≡ Some g
if_same true g p q p' q' yes_is no_is is = yes_is is
if_same false g p q p' q' yes_is no_is is = no_is is

want_first : (purpose : Purpose) (runs known : Bool) (g : Guard) (o : Option Guard) →
    own_want purpose runs known None ≡ Some g → own_want purpose runs known o ≡ Some g
want_first Load runs known g o =
    then_same (not runs) NotRunning g _ _ (then_same known InTable g None o (λ is. absurd (none-some g is)))
want_first Unload runs known g o = then_same runs Running g None o (λ is. absurd (none-some g is))

-- a guard of a Seek that looks at the seat's own row goes before the others
pub seek_first : (purpose : Purpose) (r : Row) (runs owner known : Bool) (g : Guard) (o : Option Guard) →
    own_seek purpose r runs owner known None ≡ Some g → own_seek purpose r runs owner known o ≡ Some g
seek_first purpose r runs owner known g o =
    then_same (not (holds_shares r)) NoShare g _ _
    (then_same owner Exclusive g _ _ (want_first purpose runs known g o))

-- a guard of a Take that looks at the seat's own row goes before the others
pub take_first : (purpose : Purpose) (r : Row) (runs owner known wanted : Bool) (g : Guard) (o : Option Guard) →
    own_take purpose r runs owner known wanted None ≡ Some g → own_take purpose r runs owner known wanted o ≡ Some g
take_first purpose r runs owner known wanted g o =
    if_same (is_calm r.phase) g _ _ _ _ (seek_first purpose r runs owner known g o)
    (then_same (not (seeks_this purpose wanted r.phase)) WrongWant g None o (λ is. absurd (none-some g is)))

-- WHERE NONE REFUSES

then_passes : (b : Bool) (g : Guard) (p q : Option Guard) → (p ≡ None → q ≡ None) → (g when b else p) ≡ None →
    (g when b else q) ≡ None
then_passes true g p q others is = absurd (none-some g (sym is))
then_passes false g p q others is = others is

want_fresh : (purpose : Purpose) (runs known : Bool) (o : Option Guard) → own_want purpose runs known o ≡ None →
    own_want purpose runs false o ≡ None
want_fresh Load runs known o = then_passes (not runs) NotRunning _ _ (λ is. (guard_false known InTable o is).1)
want_fresh Unload runs known o = λ is. is

-- a Seek that passes is of no task in the table
pub seek_fresh : (purpose : Purpose) (r : Row) (runs owner known : Bool) (o : Option Guard) →
    own_seek purpose r runs owner known o ≡ None → own_seek purpose r runs owner false o ≡ None
seek_fresh purpose r runs owner known o =
    then_passes (not (holds_shares r)) NoShare _ _ (then_passes owner Exclusive _ _ (want_fresh purpose runs known o))

seeks_it : (purpose : Purpose) (wanted : Bool) (phase : Phase) → not (seeks_this purpose wanted phase) ≡ false →
    not (seeks_this purpose true phase) ≡ false
seeks_it purpose wanted Calm is = is
seeks_it purpose wanted (Seeking p) is =
    let both : (p == purpose_bit purpose ≡ true) × (wanted ≡ true) =
    and_parts (p == purpose_bit purpose) wanted (not-false _ is) in
    ap (λ b. not (b && true)) both.0
seeks_it purpose wanted (Releasing list) is = is

if_passes : (b : Bool) (p q p' q' : Option Guard) → (p ≡ None → p' ≡ None) → (q ≡ None → q' ≡ None) →
    (if b then p else q) ≡ None → (if b then p' else q') ≡ None
if_passes true p q p' q' yes_is no_is is = yes_is is
if_passes false p q p' q' yes_is no_is is = no_is is

-- a Take that passes is of the section's want, or of no task in the table
pub take_fresh : (purpose : Purpose) (r : Row) (runs owner known wanted : Bool) (o : Option Guard) →
    own_take purpose r runs owner known wanted o ≡ None → own_take purpose r runs owner false true o ≡ None
take_fresh purpose r runs owner known wanted o =
    if_passes (is_calm r.phase) _ _ _ _ (seek_fresh purpose r runs owner known o)
    (λ is.
    let both : (not (seeks_this purpose wanted r.phase) ≡ false) × (o ≡ None) = guard_false _ WrongWant o is in
    ap (λ b. WrongWant when b else o) (seeks_it purpose wanted r.phase both.0) ∙ both.1)
