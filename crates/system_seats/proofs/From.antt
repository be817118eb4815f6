-- From which shape each event leaves, where none of its guards is true.
use Rattle.std.proofs.Common.{◌≡◌, ℕ, zero, suc, ◌⊎◌, inl, inr, Bool, true, false, not, Option, Some, None}
use Rattle.std.proofs.Common.{refl, sym, arith}
use Rattle.std.proofs.lemmas.Bool.{true≢false}
use Rattle.std.proofs.lemmas.Option.{none-some}
use Rattle.share_lock.specs.Rows.{waits_without}
use Rattle.system_seats.specs.declared.guard.Guard.{Guard}
use Rattle.system_seats.specs.declared.guard.Guard.TheVariants.{InTable, WrongWant}
use Rattle.system_seats.specs.declared.guard.Purpose.TheVariants.{Load, Unload}
use Rattle.system_seats.specs.Guards.{◌when◌else◌, own_share, own_unshare, own_yield, own_retake, own_seek, own_take}
use Rattle.system_seats.specs.Guards.{own_release, own_resume, own_begin, own_end}
use Rattle.system_seats.specs.Shapes.{Shape, Rests, Shares, Runs, Yields, SeeksLoad, SeeksUnload, Loads, Unloads}
use Rattle.system_seats.specs.Shapes.{LeavesLoad, LeavesUnload, shape_row, shape_runs, shape_owns}

-- a guard that is true refuses
pub none_passed : {A : Type 0} {g : Guard} → Some g ≡ None → A
none_passed {A} {g} p = absurd (none-some g (sym p))

some≢none : (n : ℕ) → suc n ≡ zero → ⊥
some≢none n p = omega arith

-- where no guard refuses, the first one is false, and none of the others refuses
pub guard_false : (b : Bool) (g : Guard) (o : Option Guard) → (g when b else o) ≡ None → (b ≡ false) × (o ≡ None)
guard_false true g o p = none_passed p
guard_false false g o p = (refl, p)

-- a Share whose guards pass leaves from a seat that rests
pub share_shape : (sh : Shape) (o : Option Guard) → own_share (shape_row sh) (shape_runs sh) (shape_owns sh) o
    ≡ None → (sh ≡ Rests) × (o ≡ None)
share_shape Rests o p = (refl, p)
share_shape Shares o p = none_passed p
share_shape Runs o p = none_passed p
share_shape Yields o p = none_passed p
share_shape SeeksLoad o p = none_passed p
share_shape SeeksUnload o p = none_passed p
share_shape Loads o p = none_passed p
share_shape Unloads o p = none_passed p
share_shape LeavesLoad o p = none_passed p
share_shape LeavesUnload o p = none_passed p

-- an Unshare whose guards pass leaves from a seat that shares
pub unshare_shape : (sh : Shape) (o : Option Guard) → own_unshare (shape_row sh) (shape_runs sh) (shape_owns sh) o
    ≡ None → (sh ≡ Shares) × (o ≡ None)
unshare_shape Rests o p = none_passed p
unshare_shape Shares o p = (refl, p)
unshare_shape Runs o p = none_passed p
unshare_shape Yields o p = none_passed p
unshare_shape SeeksLoad o p = none_passed p
unshare_shape SeeksUnload o p = none_passed p
unshare_shape Loads o p = none_passed p
unshare_shape Unloads o p = none_passed p
unshare_shape LeavesLoad o p = none_passed p
unshare_shape LeavesUnload o p = none_passed p

-- a Yield whose guards pass leaves from a seat that runs
pub yield_shape : (sh : Shape) (o : Option Guard) → own_yield (shape_row sh) (shape_runs sh) (shape_owns sh) o
    ≡ None → (sh ≡ Runs) × (o ≡ None)
yield_shape Rests o p = none_passed p
yield_shape Shares o p = none_passed p
yield_shape Runs o p = (refl, p)
yield_shape Yields o p = none_passed p
yield_shape SeeksLoad o p = none_passed p
yield_shape SeeksUnload o p = none_passed p
yield_shape Loads o p = none_passed p
yield_shape Unloads o p = none_passed p
yield_shape LeavesLoad o p = none_passed p
yield_shape LeavesUnload o p = none_passed p

-- a Retake whose guards pass leaves from a seat that yields
pub retake_shape : (sh : Shape) (o : Option Guard) → own_retake (shape_row sh) (shape_runs sh) (shape_owns sh) o
    ≡ None → (sh ≡ Yields) × (o ≡ None)
retake_shape Rests o p = none_passed p
retake_shape Shares o p = none_passed p
retake_shape Runs o p = none_passed p
retake_shape Yields o p = (refl, p)
retake_shape SeeksLoad o p = none_passed p
retake_shape SeeksUnload o p = none_passed p
retake_shape Loads o p = none_passed p
retake_shape Unloads o p = none_passed p
retake_shape LeavesLoad o p = none_passed p
retake_shape LeavesUnload o p = none_passed p

-- an End whose guards pass leaves from a seat that runs
pub end_shape : (sh : Shape) (o : Option Guard) → own_end (shape_row sh) (shape_runs sh) (shape_owns sh) o ≡ None →
    (sh ≡ Runs) × (o ≡ None)
end_shape Rests o p = none_passed p
end_shape Shares o p = none_passed p
end_shape Runs o p = (refl, p)
end_shape Yields o p = none_passed p
end_shape SeeksLoad o p = none_passed p
end_shape SeeksUnload o p = none_passed p
end_shape Loads o p = none_passed p
end_shape Unloads o p = none_passed p
end_shape LeavesLoad o p = none_passed p
end_shape LeavesUnload o p = none_passed p

-- a Resume whose guards pass leaves from a seat that leaves
pub resume_shape : (sh : Shape) (o : Option Guard) → own_resume (shape_row sh) (shape_runs sh) (shape_owns sh) o
    ≡ None → ((sh ≡ LeavesLoad) ⊎ (sh ≡ LeavesUnload)) × (o ≡ None)
resume_shape Rests o p = none_passed p
resume_shape Shares o p = none_passed p
resume_shape Runs o p = none_passed p
resume_shape Yields o p = none_passed p
resume_shape SeeksLoad o p = none_passed p
resume_shape SeeksUnload o p = none_passed p
resume_shape Loads o p = none_passed p
resume_shape Unloads o p = none_passed p
resume_shape LeavesLoad o p = (inl refl, p)
resume_shape LeavesUnload o p = (inr refl, p)

-- a Release whose guards pass leaves from a seat that loads or unloads
pub release_shape : (sh : Shape) (o : Option Guard) → own_release (shape_row sh) (shape_runs sh) (shape_owns sh) o
    ≡ None → (sh ≡ Loads) ⊎ (sh ≡ Unloads)
release_shape Rests o p = none_passed p
release_shape Shares o p = none_passed p
release_shape Runs o p = none_passed p
release_shape Yields o p = none_passed p
release_shape SeeksLoad o p = none_passed p
release_shape SeeksUnload o p = none_passed p
release_shape Loads o p = inl refl
release_shape Unloads o p = inr refl
release_shape LeavesLoad o p = none_passed p
release_shape LeavesUnload o p = none_passed p

-- a Begin whose guards pass leaves from a seat that shares, where no seat is exclusive
pub begin_shape : (sh : Shape) (o : Option Guard) → own_begin (shape_row sh) (shape_runs sh) (shape_owns sh) o
    ≡ None → shape_owns sh ≡ false → (sh ≡ Shares) × (o ≡ None)
begin_shape Rests o p q = none_passed p
begin_shape Shares o p q = (refl, p)
begin_shape Runs o p q = none_passed p
begin_shape Yields o p q = none_passed p
begin_shape SeeksLoad o p q = none_passed p
begin_shape SeeksUnload o p q = none_passed p
begin_shape Loads o p q = none_passed p
begin_shape Unloads o p q = absurd (true≢false q)
begin_shape LeavesLoad o p q = none_passed p
begin_shape LeavesUnload o p q = none_passed p

-- a Seek for a load whose guards pass leaves from a seat that runs, of a task that is not in the table
pub seek_load_shape : (sh : Shape) (known : Bool) (o : Option Guard) →
    own_seek Load (shape_row sh) (shape_runs sh) (shape_owns sh) known o ≡ None → (sh ≡ Runs)
    × ((known ≡ false) × (o ≡ None))
seek_load_shape Rests known o p = none_passed p
seek_load_shape Shares known o p = none_passed p
seek_load_shape Runs known o p = (refl, guard_false known InTable o p)
seek_load_shape Yields known o p = none_passed p
seek_load_shape SeeksLoad known o p = none_passed p
seek_load_shape SeeksUnload known o p = none_passed p
seek_load_shape Loads known o p = none_passed p
seek_load_shape Unloads known o p = none_passed p
seek_load_shape LeavesLoad known o p = none_passed p
seek_load_shape LeavesUnload known o p = none_passed p

-- a Take for a load whose guards pass leaves from a seat that runs or seeks a load
pub take_load_shape : (sh : Shape) (known wanted : Bool) (o : Option Guard) →
    own_take Load (shape_row sh) (shape_runs sh) (shape_owns sh) known wanted o ≡ None →
    ((sh ≡ Runs) ⊎ (sh ≡ SeeksLoad)) × (o ≡ None)
take_load_shape Rests known wanted o p = none_passed p
take_load_shape Shares known wanted o p = none_passed p
take_load_shape Runs known wanted o p = (inl refl, (guard_false known InTable o p).1)
take_load_shape Yields known wanted o p = none_passed p
take_load_shape SeeksLoad known wanted o p = (inr refl, (guard_false (not wanted) WrongWant o p).1)
take_load_shape SeeksUnload known wanted o p = none_passed p
take_load_shape Loads known wanted o p = none_passed p
take_load_shape Unloads known wanted o p = none_passed p
take_load_shape LeavesLoad known wanted o p = none_passed p
take_load_shape LeavesUnload known wanted o p = none_passed p

-- a Seek for an unload whose guards pass leaves from a seat that shares
pub seek_unload_shape : (sh : Shape) (known : Bool) (o : Option Guard) →
    own_seek Unload (shape_row sh) (shape_runs sh) (shape_owns sh) known o ≡ None → (sh ≡ Shares) × (o ≡ None)
seek_unload_shape Rests known o p = none_passed p
seek_unload_shape Shares known o p = (refl, p)
seek_unload_shape Runs known o p = none_passed p
seek_unload_shape Yields known o p = none_passed p
seek_unload_shape SeeksLoad known o p = none_passed p
seek_unload_shape SeeksUnload known o p = none_passed p
seek_unload_shape Loads known o p = none_passed p
seek_unload_shape Unloads known o p = none_passed p
seek_unload_shape LeavesLoad known o p = none_passed p
seek_unload_shape LeavesUnload known o p = none_passed p

-- a Take for an unload whose guards pass leaves from a seat that shares or seeks an unload
pub take_unload_shape : (sh : Shape) (known wanted : Bool) (o : Option Guard) →
    own_take Unload (shape_row sh) (shape_runs sh) (shape_owns sh) known wanted o ≡ None →
    ((sh ≡ Shares) ⊎ (sh ≡ SeeksUnload)) × (o ≡ None)
take_unload_shape Rests known wanted o p = none_passed p
take_unload_shape Shares known wanted o p = (inl refl, p)
take_unload_shape Runs known wanted o p = none_passed p
take_unload_shape Yields known wanted o p = none_passed p
take_unload_shape SeeksLoad known wanted o p = none_passed p
take_unload_shape SeeksUnload known wanted o p = (inr refl, (guard_false (not wanted) WrongWant o p).1)
take_unload_shape Loads known wanted o p = none_passed p
take_unload_shape Unloads known wanted o p = none_passed p
take_unload_shape LeavesLoad known wanted o p = none_passed p
take_unload_shape LeavesUnload known wanted o p = none_passed p

-- a seat that runs has a share, or waits with a list that lacks unloads
pub idle_shape : (sh : Shape) → (shape_row sh).shares ≡ 0 → waits_without 1 (shape_row sh) ≡ false →
    shape_runs sh ≡ false
idle_shape Rests p q = refl
idle_shape Shares p q = refl
idle_shape Runs p q = absurd (some≢none 0 p)
idle_shape Yields p q = absurd (true≢false q)
idle_shape SeeksLoad p q = absurd (true≢false q)
idle_shape SeeksUnload p q = refl
idle_shape Loads p q = absurd (some≢none 0 p)
idle_shape Unloads p q = refl
idle_shape LeavesLoad p q = absurd (true≢false q)
idle_shape LeavesUnload p q = refl

-- what follows the guards of the row holds too
pub begin_rest : (sh : Shape) (o : Option Guard) → own_begin (shape_row sh) (shape_runs sh) (shape_owns sh) o
    ≡ None → o ≡ None
begin_rest Rests o p = none_passed p
begin_rest Shares o p = p
begin_rest Runs o p = none_passed p
begin_rest Yields o p = none_passed p
begin_rest SeeksLoad o p = none_passed p
begin_rest SeeksUnload o p = none_passed p
begin_rest Loads o p = none_passed p
begin_rest Unloads o p = p
begin_rest LeavesLoad o p = none_passed p
begin_rest LeavesUnload o p = none_passed p
