-- What steps of the machine say of the rest of a run: that it is the same, whatever comes after.
use Rattle.std.specs.Prelude.{◌≡◌, ◌<◌, ◌≤◌, ℕ, zero, suc, Bool, true, false, List, Option, Some, None}
use Rattle.std.specs.Prelude.{Result, Ok, Err}
use Rattle.by_need.specs.Asking.{Gives, Ask, Error}
use Rattle.ruby_types.specs.declared.value.Value.{Value}
use Rattle.ruby_types.specs.declared.request.RubyError.{RubyError}
use Rattle.ruby_types.specs.declared.request.Task.{Task}
use Rattle.program_places.specs.Paths.{Name, Path}
use Rattle.program_places.specs.Places.{Index, Place, Missing, Implicit, Owned, Faulty, Assigned, Opened}
use Rattle.ruby_runs.specs.Names.{Found}
use Rattle.ruby_runs.specs.Doing.{Doing, Going, Here}
use Rattle.ruby_machine_names.specs.declared.here.Failure.{Failure}
use Rattle.ruby_machine_names.specs.declared.here.Failure.TheVariants as failure
use Rattle.ruby_machine_names.specs.declared.here.HereCode.{HereCode}
use Rattle.ruby_machine_names.specs.declared.names.Awaited.{Awaited}
use Rattle.ruby_machine_names.specs.declared.names.PathStep.{PathStep}
use Rattle.ruby_machine_names.specs.declared.names.PathStep.TheVariants as path_step
use Rattle.ruby_machine_names.specs.declared.names.NameStep.{NameStep}
use Rattle.ruby_machine_names.specs.declared.names.NameStep.TheVariants as name_step
use Rattle.ruby_machine_names.specs.declared.resolving.NameWait.{NameWait}
use Rattle.ruby_machine_names.specs.declared.resolving.Resolving.{Resolving}
use Rattle.ruby_machine_names.specs.declared.resolving.Resolving.TheVariants as resolving
use Rattle.ruby_machine_names.specs.Names.{found_of}

-- the place that code names
abbrev pub here_of : HereCode → Here
here_of here = record { file = here.file; scopes = here.scopes; limit = here.limit }

-- this error, or that memory is lacking
abbrev pub Fails : RubyError → Failure → Type 0
Fails error (failure.Raised raised) = raised ≡ error
Fails error failure.Memory = Unit {0}

-- one turn was spent, or none was left
abbrev pub Spends : ℕ → Bool → ℕ → Type 0
Spends old true new = old ≡ suc new
Spends old false new = (old ≡ 0) × (new ≡ 0)

-- the file of a place is at fault with this error
abbrev pub FaultOf : Place → RubyError → Type 0
FaultOf (Owned file (Faulty own)) error = own ≡ error
FaultOf _ error = ⊥

-- the file of a place, if there is one, has no fault
abbrev pub NoFault : Place → Type 0
NoFault (Owned file (Faulty own)) = ⊥
NoFault _ = Unit {0}

-- a run ends here: with an error, unless memory is lacking
abbrev pub Ends : {A : Type 0} → Doing A → Failure → Type 0
Ends {A} d (failure.Raised error) = (turns : ℕ) (go : Going A) → d turns go ≡ Gives (Error error)
Ends {A} d failure.Memory = Unit {0}

-- what asks for nothing and spends no turn came to this
abbrev pub Settles : {A : Type 0} → Doing A → Result A Failure → Type 0
Settles {A} d (Ok a) = (turns : ℕ) (go : Going A) → d turns go ≡ go a turns
Settles {A} d (Err f) = Ends d f

-- a run with so many turns ends here
abbrev pub EndsAt : {A : Type 0} → Doing A → ℕ → Failure → Type 0
EndsAt {A} d turns (failure.Raised error) = (go : Going A) → d turns go ≡ Gives (Error error)
EndsAt {A} d turns failure.Memory = Unit {0}

-- with so many turns it comes to this, and these are left
abbrev pub ComesTo : {A : Type 0} → Doing A → ℕ → A → ℕ → Type 0
ComesTo {A} d old a new = ((go : Going A) → d old go ≡ go a new) × (new ≤ old)

-- with so many turns it asks for this task; what it then does with the value has these turns left
abbrev pub AsksFor : {A : Type 0} → (Value → Doing A) → Doing A → ℕ → Task → ℕ → Type 0
AsksFor {A} later d old task new =
    ((go : Going A) → d old go ≡ Ask task (λ value. later value new go)) × (new < old)

-- turns that are begun
abbrev pub TurnGoes : Doing (Unit {0}) → ℕ → Result (Unit {0}) Failure → ℕ → Type 0
TurnGoes d old (Ok u) new = ComesTo d old tt new
TurnGoes d old (Err f) new = EndsAt d old f

-- how looking a name up goes on
abbrev pub PathGoes : (Value → Doing Path) → Doing Path → ℕ → Result PathStep Failure → ℕ → Type 0
PathGoes later d old (Ok (path_step.Gives path)) new = ComesTo d old path new
PathGoes later d old (Ok (path_step.Asks task)) new = AsksFor later d old task new
PathGoes later d old (Err f) new = EndsAt d old f

-- how referring to a name goes on
abbrev pub NameGoes : (Awaited → Value → Doing Found) → Doing Found → ℕ → Result NameStep Failure → ℕ → Type 0
NameGoes later d old (Ok (name_step.Gives found)) new = ComesTo d old (found_of found) new
NameGoes later d old (Ok (name_step.Asks task awaited)) new = AsksFor (later awaited) d old task new
NameGoes later d old (Err f) new = EndsAt d old f

-- how resolving a constant goes on
abbrev pub WholeGoes : (NameWait → Value → Doing Found) → Doing Found → ℕ → Result Resolving Failure → ℕ → Type 0
WholeGoes later d old (Ok (resolving.Found found)) new = ComesTo d old (found_of found) new
WholeGoes later d old (Ok (resolving.Asks task wait)) new = AsksFor (later wait) d old task new
WholeGoes later d old (Err f) new = EndsAt d old f

-- resolving waits for a task, unless memory is lacking
abbrev pub IsWait : List Name → ℕ → Bool → Task → Awaited → Result Resolving Failure → Type 0
IsWait all place in_code task awaited (Ok (resolving.Asks needed wait)) = (needed ≡ task)
    × (wait ≡ record { names = all; place = place; in_code = in_code; awaited = awaited })
IsWait all place in_code task awaited (Ok (resolving.Found found)) = ⊥
IsWait all place in_code task awaited (Err (failure.Raised error)) = ⊥
IsWait all place in_code task awaited (Err failure.Memory) = Unit {0}
