-- What a name is found as, by what the files of an application define.
use Rattle.std.specs.Prelude.{◌≡◌, ℕ, List, [], ◌∷◌, Option, Some, slice_get}
use Rattle.ruby_types.specs.declared.request.RubyError.{RubyError}
use Rattle.ruby_types.specs.declared.request.Task.TheVariants as task
use Rattle.program_places.specs.Paths.{Name, Path}
use Rattle.program_places.specs.Places.{Place, Implicit, Owned, Content}
use Rattle.program_files.specs.Files.{UsedFile}
use Rattle.program_files.specs.Contents.{place_of}
use Rattle.program_resolve.specs.Resolve.{AtPath, InFaulty, Nowhere, bare}
use Rattle.program_standing.specs.declared.resolved.Resolved.{Resolved}
use Rattle.program_standing.specs.declared.resolved.Resolved.TheVariants as found
use Rattle.program_outcomes.specs.Outcomes.{listed}

-- no two files that are used have one path
abbrev pub OneNumber : List (Option UsedFile) → Type 0
OneNumber files = (n m : ℕ) (f g : UsedFile) → slice_get files n ≡ Some (Some f) → slice_get files m ≡ Some (Some g) →
    f.path ≡ g.path → n ≡ m

module _ (files : List (Option UsedFile)) where
  -- what stands at a path
  abbrev pub stands_at : Path → Place
  stands_at path = place_of (listed files) path

  -- the file of this number is used and has this path
  abbrev pub IsNumberOf : (number : ℕ) → List ℕ → Type 0
  IsNumberOf number path = (f : UsedFile) × (slice_get files number ≡ Some (Some f)) × (f.path ≡ path)

  -- the file owns what stands at the path
  abbrev pub OwnsPath : List ℕ → Path → Type 0
  OwnsPath file path = (content : Content) × (stands_at path ≡ Owned file content)

  -- the file owns the innermost scope
  abbrev pub OwnsInnermost : List ℕ → List Path → Type 0
  OwnsInnermost file [] = ⊥
  OwnsInnermost file (scope ∷ scopes) = OwnsPath file scope

  -- A name is found in lexical scopes as an own constant where the file of the innermost scope owns it; as another's,
  -- with the file's number, where a file owns it that doesn't own the innermost scope, or there is no scope; as a
  -- namespace without a file; as the fault of the file of a scope; or it is missing.
  abbrev pub IsResolved : List Path → Name → Resolved → Type 0
  IsResolved scopes name (found.Own (task.Const path)) = (bare stands_at scopes name ≡ AtPath path)
      × ((file : List ℕ) × OwnsPath file path × OwnsInnermost file scopes)
  IsResolved scopes name (found.Other number (task.Const path)) = (bare stands_at scopes name ≡ AtPath path)
      × ((file : List ℕ) × OwnsPath file path × IsNumberOf number file × (OwnsInnermost file scopes → ⊥))
  IsResolved scopes name (found.Namespace path) =
      (bare stands_at scopes name ≡ AtPath path) × (stands_at path ≡ Implicit)
  IsResolved scopes name (found.Fault number) = (file : List ℕ) × (error : RubyError)
      × (bare stands_at scopes name ≡ InFaulty file error) × IsNumberOf number file
  IsResolved scopes name found.Missing = bare stands_at scopes name ≡ Nowhere
  IsResolved scopes name _ = ⊥
