-- Methods, as code and as what they are.
use Rattle.std.specs.Prelude.{◌≡◌, Bool, List, [], ◌∷◌, ◌++◌, Option, Some, None, find, bytes_eq, ⊤}
use Rattle.std.specs.Cmp.Lexicographic.{slice_cmp}
use Rattle.std.specs.Ordering.{nat_cmp, is_lt}
use Rattle.std.specs.declared.cmp.Ordering.{Ordering}
use Rattle.program_places.specs.Paths.{Name}
use Rattle.program_places.specs.Places.{Body, Statements, Reads, Method}
use Rattle.ruby_nodes.specs.Entries.{Entry, Stands, body_entry}
use Rattle.program_lookups.specs.declared.code.BodyCode.{BodyCode}
use Rattle.program_lookups.specs.declared.code.BodyCode.TheVariants as body_code
use Rattle.program_lookups.specs.declared.code.MethodCode.{MethodCode}

-- the order of methods by their names
abbrev pub name_order : MethodCode → MethodCode → Ordering
name_order m other = slice_cmp nat_cmp m.name other.name

-- a method whose name comes before this one
abbrev pub comes_before : Name → MethodCode → Bool
comes_before name m = is_lt (slice_cmp nat_cmp m.name name)

-- a method of this name
abbrev pub is_named : Name → MethodCode → Bool
is_named name m = bytes_eq m.name name

-- the first method of this name
abbrev pub first_named : Name → List MethodCode → Option MethodCode
first_named name methods = find (is_named name) methods

-- the first method of this name, of methods that code stands for
abbrev pub first_method : Name → List Method → Option Method
first_method name methods = find (λ m. bytes_eq m.name name) methods

-- the code of a body
abbrev pub IsBodyOf : List Entry → BodyCode → Body → Type 0
IsBodyOf known (body_code.Statements first) (Statements body) = Stands known first (body_entry body)
IsBodyOf known (body_code.Reads name) (Reads variable) = name ≡ variable
IsBodyOf known code body = ⊥

-- the code of a method
pub record IsMethodOf (known : List Entry) (code : MethodCode) (method : Method) : Type 0 where
  pub name : code.name ≡ method.name
  pub params : code.params ≡ method.params
  pub body : IsBodyOf known code.body method.body
  pub scopes : code.scopes ≡ method.scopes
  pub file : code.file ≡ method.file

-- the code of methods, one after another
abbrev pub AreMethodsOf : List Entry → List MethodCode → List Method → Type 0
AreMethodsOf known [] [] = ⊤
AreMethodsOf known (code ∷ codes) (method ∷ methods) =
    IsMethodOf known code method × AreMethodsOf known codes methods
AreMethodsOf known codes methods = ⊥

-- the code of a method that is found, or none where none is
abbrev pub IsFoundOf : List Entry → Option MethodCode → Option Method → Type 0
IsFoundOf known None None = ⊤
IsFoundOf known (Some code) (Some method) = IsMethodOf known code method
IsFoundOf known code method = ⊥

-- what is found of each name is the code of what is found of it
abbrev pub AreFoundOf : List Entry → List MethodCode → List Method → Type 0
AreFoundOf known codes methods = (name : Name) → IsFoundOf known (first_named name codes) (first_method name methods)

-- the code of these methods is added at the end
pub record Adds (known : List Entry) (old new : List MethodCode) (methods : List Method) : Type 0 where
  pub added : List MethodCode
  pub is : new ≡ old ++ added
  pub code : AreMethodsOf known added methods
