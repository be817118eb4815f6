-- Worked files.
use Rattle.std.proofs.Common.{◌≡◌, false, [], ◌∷◌, Some, None, refl, codes}
use Rattle.ruby_types.specs.declared.tree.Def.TheVariants as def
use Rattle.ruby_types.specs.declared.tree.Expr.TheVariants as expr
use Rattle.ruby_types.specs.declared.request.ErrorClass.TheVariants as class
use Rattle.ruby_types.specs.declared.request.Task.TheVariants as task
use Rattle.program_places.specs.Paths.{Name}
use Rattle.program_files.specs.Files.{UsedFile, Readable, entries}
use Rattle.program_files.specs.Entries.{entry, file_entries, Opens, Assigns}
use Rattle.program_files.proofs.Entries.{of-Module, of-Assign}
use Rattle.program_files.specs.Faults.{file_fault}
use Rattle.program_files.specs.Contents.{place_of}
use Rattle.program_places.specs.Places.{Missing, Implicit, Owned, Assigned}
use Rattle.program_files.specs.Tasks.{tasks_of}

abbrev A : Name
A = 65 ∷ []

abbrev B : Name
B = 66 ∷ []

abbrev D : Name
D = 68 ∷ []

abbrev E : Name
E = 69 ∷ []

abbrev X : Name
X = 88 ∷ []

-- `module A::B`, and `module A::B::D::E` with `X = nil` in it
abbrev b : UsedFile
b = record {
  path = codes "app/lib/a/b.rb";
  constant = A ∷ B ∷ [];
  reading = Readable (entry (A ∷ B ∷ []) [] (Opens false None) ∷ entry (A ∷ B ∷ D ∷ E ∷ []) [] (Opens false None)
      ∷ entry (A ∷ B ∷ D ∷ E ∷ X ∷ []) ((A ∷ B ∷ D ∷ E ∷ []) ∷ []) (Assigns expr.Nil) ∷ []);
}

-- `module A::B::D` with `module E` and `X = nil` in it
abbrev d : UsedFile
d = record {
  path = codes "app/lib/a/b/d.rb";
  constant = A ∷ B ∷ D ∷ [];
  reading = Readable (entry (A ∷ B ∷ D ∷ []) [] (Opens false None) ∷ entry (A ∷ B ∷ D ∷ E ∷ []) ((A ∷ B ∷ D ∷ []) ∷ [])
      (Opens false None) ∷ entry (A ∷ B ∷ D ∷ E ∷ X ∷ []) ((A ∷ B ∷ D ∷ E ∷ []) ∷ (A ∷ B ∷ D ∷ []) ∷ [])
      (Assigns expr.Nil) ∷ []);
}

-- a tree's entries
read : file_entries (def.Module (A ∷ B ∷ []) [] ∷ def.Module (A ∷ B ∷ D ∷ E ∷ []) (def.Assign X expr.Nil ∷ []) ∷ [])
    ≡ entries b
read = rw (
  of-Module (A ∷ B ∷ []) [],
  of-Module (A ∷ B ∷ D ∷ E ∷ []) (def.Assign X expr.Nil ∷ []),
  of-Assign X
      expr.Nil,
) refl

passes_through : file_fault (b ∷ d ∷ []) b ≡ Some (record {
  class = class.Name;
  message =
      codes "A::B::D has a file of its own";
  path = codes "app/lib/a/b.rb";
})
passes_through = refl

no_fault : file_fault (b ∷ d ∷ []) d ≡ None
no_fault = refl

all_tasks : tasks_of (b ∷ d ∷ []) ≡ task.File (codes "app/lib/a/b.rb") ∷ task.Const (A ∷ B ∷ [])
    ∷ task.Ancestors (A ∷ B ∷ []) ∷ task.File (codes "app/lib/a/b/d.rb") ∷ task.Const (A ∷ B ∷ D ∷ [])
    ∷ task.Ancestors (A ∷ B ∷ D ∷ [])
    ∷ task.Const (A ∷ B ∷ D ∷ E ∷ []) ∷ task.Ancestors (A ∷ B ∷ D ∷ E ∷ []) ∷ task.Const (A ∷ B ∷ D ∷ E ∷ X ∷ []) ∷ []
all_tasks = refl

-- the scope's own constant, one of a scope around, and what no file has
places : (place_of (b ∷ d ∷ []) (A ∷ []) ≡ Implicit) × (place_of (b ∷ d ∷ []) (A ∷ B ∷ D ∷ E ∷ X ∷ [])
    ≡ Owned (codes "app/lib/a/b/d.rb") (Assigned expr.Nil ((A ∷ B ∷ D ∷ E ∷ []) ∷ (A ∷ B ∷ D ∷ []) ∷ []))) × (place_of
    (b ∷ d ∷ []) (A ∷ X ∷ []) ≡ Missing)
places = (refl, refl, refl)
