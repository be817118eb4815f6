-- Worked searches.
use Rattle.std.proofs.Common.{◌≡◌, false, [], ◌∷◌, None, refl, codes}
use Rattle.ruby_types.specs.declared.tree.Expr.TheVariants as expr
use Rattle.program_places.specs.Paths.{Name}
use Rattle.program_files.specs.Files.{UsedFile, Readable}
use Rattle.program_files.specs.Entries.{entry, Opens, Assigns}
use Rattle.program_files.specs.Contents.{place_of}
use Rattle.ruby_types.specs.declared.request.ErrorClass.TheVariants as class
use Rattle.program_resolve.specs.Resolve.{AtPath, InFaulty, Nowhere, bare, inside, at_top}

abbrev A : Name
A = 65 ∷ []

abbrev B : Name
B = 66 ∷ []

abbrev X : Name
X = 88 ∷ []

-- `module A` with `X = nil` in it
abbrev a : UsedFile
a = record {
  path = codes "app/lib/a.rb";
  constant = A ∷ [];
  reading = Readable (entry (A ∷ []) [] (Opens false None) ∷ entry (A ∷ X ∷ []) ((A ∷ []) ∷ []) (Assigns expr.Nil)
      ∷ []);
}

-- `module A::B`
abbrev b : UsedFile
b = record {
  path = codes "app/lib/a/b.rb";
  constant = A ∷ B ∷ [];
  reading = Readable (entry (A ∷ B ∷ []) [] (Opens false None) ∷ []);
}

-- an empty text
abbrev empty : UsedFile
empty = record {
  path = codes "app/lib/a/b.rb";
  constant = A ∷ B ∷ [];
  reading = Readable [];
}

-- the scope `A::B` is one scope
one_scope : bare (place_of (a ∷ b ∷ [])) ((A ∷ B ∷ []) ∷ []) X ≡ Nowhere
one_scope = refl

two_scopes : bare (place_of (a ∷ b ∷ [])) ((A ∷ B ∷ []) ∷ (A ∷ []) ∷ []) X ≡ AtPath (A ∷ X ∷ [])
two_scopes = refl

qualified : inside (place_of (a ∷ b ∷ [])) (A ∷ []) B ≡ AtPath (A ∷ B ∷ [])
qualified = refl

top : at_top (place_of (a ∷ b ∷ [])) X ≡ Nowhere
top = refl

faulty_scope : bare (place_of (a ∷ empty ∷ [])) ((A ∷ B ∷ []) ∷ (A ∷ []) ∷ []) X
    ≡ InFaulty (codes "app/lib/a/b.rb") (record {
      class = class.Name;
      message = codes "expected file app/lib/a/b.rb to define constant A::B, but didn't";
      path = codes "app/lib/a/b.rb";
    })
faulty_scope = refl
