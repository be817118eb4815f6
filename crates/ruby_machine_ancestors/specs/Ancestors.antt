-- What the run of an ancestors' task still does.
use Rattle.std.specs.Prelude.{ℕ, suc, if◌then◌else◌, List, [], ◌∷◌, ◌++◌, map, drop, length, codes}
use Rattle.std.specs.Prelude.{Result, Ok, Err}
use Rattle.ruby_types.specs.declared.value.Value.{Value}
use Rattle.ruby_types.specs.declared.value.Value.TheVariants.{Array, Module}
use Rattle.ruby_types.specs.declared.request.ErrorClass.TheVariants as class
use Rattle.program_places.specs.Paths.{Path}
use Rattle.program_places.specs.Places.{Index, Mention}
use Rattle.program_lookups.specs.Codes.{opening_of}
use Rattle.ruby_runs.specs.Doing.{Doing, Going, Meaning, pure, ◌>>=◌, fail}
use Rattle.ruby_runs.specs.Names.{Found, ancestors, members_of}
use Rattle.ruby_runs.specs.Bodies.{is_class_at}
use Rattle.ruby_runs.specs.Runs.{all_members, from_last, is_no_module, looked_up, run_limits, with_paths}
use Rattle.ruby_machine_names.specs.Profile.{profile}
use Rattle.ruby_machine_names.specs.Names.{later}
use Rattle.ruby_machine_names.specs.Steps.{AsksFor, ComesTo, EndsAt, here_of}
use Rattle.ruby_machine_names.specs.declared.here.Failure.{Failure}
use Rattle.ruby_machine_files.specs.Files.{file_alone, finish}
use Rattle.ruby_machine_ancestors.specs.declared.mentions.Role.{Role}
use Rattle.ruby_machine_ancestors.specs.declared.mentions.Role.TheVariants as role
use Rattle.ruby_machine_ancestors.specs.declared.mentions.Awaits.{Awaits}
use Rattle.ruby_machine_ancestors.specs.declared.mentions.Awaits.TheVariants as awaits
use Rattle.ruby_machine_ancestors.specs.declared.mentions.MentionStep.{MentionStep}
use Rattle.ruby_machine_ancestors.specs.declared.mentions.MentionStep.TheVariants as mention_step
use Rattle.ruby_machine_ancestors.specs.declared.run.AncestorsRun.{AncestorsRun}
use Rattle.ruby_machine_ancestors.specs.declared.run.AncestorsWait.{AncestorsWait}

-- what is no class is no parent
abbrev pub no_class : {A : Type 0} → List ℕ → Doing A
no_class file = fail (file_alone file) class.Kind (codes "superclass must be a Class")

-- what is no module isn't included
abbrev pub no_module : {A : Type 0} → List ℕ → Doing A
no_module file = fail (file_alone file) class.Kind (codes "wrong argument type Class (expected module)")

module _ (index : Index) where
  -- the ancestors of a parent that is a class, or of an included module
  abbrev pub judged : List ℕ → Role → Found → Doing (List Path)
  judged file role.Parent found =
      if is_class_at (index.place found.path)
      then ancestors index profile (file_alone file) found.path
      else no_class file
  judged file role.Included found =
      if is_no_module index profile run_limits found
      then no_module file
      else ancestors index profile (file_alone file) found.path

  -- what is found, judged
  abbrev pub found_judged : List ℕ → Role → Doing Found → Doing (List Path)
  found_judged file role d = d >>= judged file role

  -- a mention behind `class X <` or `include`: its constant is looked up and judged
  abbrev pub mentioned : List ℕ → Role → Mention → Doing (List Path)
  mentioned file role mention = looked_up index profile run_limits file mention >>= judged file role

  -- what a mention does with the value that it waits for
  abbrev pub waited : List ℕ → Role → Awaits → Value → Doing (List Path)
  waited file role (awaits.Constant here wait) value = later index (here_of here) wait value >>= judged file role
  waited file role awaits.Ancestors value = pure (members_of value)

-- how a mention goes on
abbrev pub MentionGoes : (Awaits → Value → Doing (List Path)) → Doing (List Path) → ℕ →
    Result MentionStep Failure → ℕ → Type 0
MentionGoes later d old (Ok (mention_step.Members members)) new = ComesTo d old members new
MentionGoes later d old (Ok (mention_step.Asks task awaits)) new = AsksFor (later awaits) d old task new
MentionGoes later d old (Err f) new = EndsAt d old f

-- The list of ancestors: the class or module itself, the members of the includes from the last to the first, then
-- those of the parent.
abbrev pub joined : Path → (parent : List Path) → (includes : List (List Path)) → Value
joined path parent includes = Array (map Module (with_paths (from_last (path ∷ []) includes) parent))

module _ (index : Index) where
  -- the includes of the class or module at a path
  abbrev pub includes_at : Path → List Mention
  includes_at path = (opening_of (index.place path)).includes

  -- the includes that are left, behind the members of the parent and of those before them
  abbrev pub behind : AncestorsRun → (parent : List Path) → List (List Path) → List Mention → Doing Value
  behind run parent done more = all_members index profile run_limits run.file more >>= (λ others.
      pure (joined run.path parent (done ++ others)))

  -- what the run does behind the members of the parent and of some includes
  abbrev pub goes_on : AncestorsRun → Meaning
  goes_on run = behind run run.parent run.includes (drop (length run.includes) (includes_at run.path))
      run.turns finish

  -- the same with the members of the parent, or of the next include
  abbrev pub with_members : AncestorsRun → Role → Going (List Path)
  with_members run role.Parent members turns =
      behind run members run.includes (drop (length run.includes) (includes_at run.path)) turns finish
  with_members run role.Included members turns =
      behind run run.parent (run.includes ++ members ∷ [])
      (drop (suc (length run.includes)) (includes_at run.path)) turns finish

  -- what a run does with the value that it waits for
  abbrev pub waits : AncestorsWait → Value → Meaning
  waits wait value =
      waited index wait.run.file wait.role wait.awaits value wait.run.turns (with_members wait.run wait.role)
