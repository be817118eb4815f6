-- Values that name only what stands in an application: each class or module in them is one, and each object is of a
-- class.
use Rattle.std.specs.Prelude.{◌≡◌, ℕ, Bool, true, false, ◌&&◌, List, [], ◌∷◌, Option, Some}
use Rattle.ruby_types.specs.declared.tree.Expr.{Expr}
use Rattle.ruby_types.specs.declared.value.Value.{Value, Value-F, fold-Value}
use Rattle.ruby_types.specs.declared.value.Value.TheOpen as layer
use Rattle.ruby_types.specs.declared.request.Task.{Task}
use Rattle.ruby_types.specs.declared.request.Task.TheVariants as task
use Rattle.ruby_builtin_base.specs.declared.called.Called.TheVariants as called
use Rattle.program_places.specs.Paths.{Name, Path}
use Rattle.program_places.specs.Places.{Index, Place, Missing, Implicit, Owned, Faulty, Assigned, Opened, Opening}
use Rattle.program_places.specs.Places.{Mention}
use Rattle.program_places.specs.Tasks.{EachIs}
use Rattle.ruby_runs.specs.BuiltIns.{BuiltIns}
use Rattle.ruby_runs.specs.Bodies.{is_class_at}
use Rattle.ruby_runs.specs.Names.{is_there}

-- A class or module stands here: a namespace without a file, one that its file opens, or one whose file is at fault.
abbrev pub is_module_at : Place → Bool
is_module_at Missing = false
is_module_at Implicit = true
is_module_at (Owned file (Faulty error)) = true
is_module_at (Owned file (Assigned value scopes)) = false
is_module_at (Owned file (Opened opening)) = true

-- all of these are true
abbrev pub all_true : List Bool → Bool
all_true [] = true
all_true (b ∷ bs) = b && all_true bs

-- both of each pair are true
abbrev pub both_true : List (Bool × Bool) → Bool
both_true [] = true
both_true (p ∷ ps) = (p.0 && p.1) && both_true ps

-- One level of a value, by whether what is inside stands.
abbrev pub stands_layer : Index → Value-F Bool → Bool
stands_layer index layer.Nil = true
stands_layer index layer.True = true
stands_layer index layer.False = true
stands_layer index (layer.Int number) = true
stands_layer index (layer.Str text) = true
stands_layer index (layer.Sym name) = true
stands_layer index (layer.Array items) = all_true items
stands_layer index (layer.Hash pairs) = both_true pairs
stands_layer index (layer.Module path) = is_module_at (index.place path)
stands_layer index (layer.Object class variables) = is_class_at (index.place class) && both_true variables

-- Whether each class or module in a value stands in the application, and the class of each object.
abbrev pub stands : Index → Value → Bool
stands index = fold-Value Bool (stands_layer index)

-- the same as a fact
abbrev pub Stands : Index → Value → Type 0
Stands index value = stands index value ≡ true

-- the key and the value of a pair
abbrev pub PairStands : Index → Value × Value → Type 0
PairStands index p = Stands index p.0 × Stands index p.1

-- all values that are known stand
abbrev pub AllStand : Index → (Task → Option Value) → Type 0
AllStand index K = (t : Task) (value : Value) → K t ≡ Some value → Stands index value

-- Built-in methods name nothing that neither the receiver nor an argument names.
abbrev pub NamesNothingNew : Index → BuiltIns → Type 0
NamesNothingNew index rows = (turns cost : ℕ) (on value : Value) (name : Name) (args : List Value) →
    rows.called turns on name args ≡ called.Value value cost → Stands index on → EachIs (Stands index) args →
    Stands index value

-- the innermost of the scopes stands, if there is one
abbrev pub ScopeStands : Index → List Path → Type 0
ScopeStands index [] = Unit {0}
ScopeStands index (scope ∷ scopes) = is_module_at (index.place scope) ≡ true

-- A name has a segment.
abbrev pub IsNamed : List Name → Type 0
IsNamed [] = ⊥
IsNamed (name ∷ names) = Unit {0}

-- What files define stands in the application: the scopes of assigned constants; names of parents and includes have a
-- segment; and a constant that has a file is there.
pub record IsWritten (index : Index) : Type 0 where
  pub scopes : (path : Path) (file : List ℕ) (x : Expr) (around : List Path) →
      index.place path ≡ Owned file (Assigned x around) → ScopeStands index around
  pub parent : (path : Path) (file : List ℕ) (opening : Opening) (mention : Mention) →
      index.place path ≡ Owned file (Opened opening) → opening.parent ≡ Some mention → IsNamed mention.constant.path
  pub includes : (path : Path) (file : List ℕ) (opening : Opening) →
      index.place path ≡ Owned file (Opened opening) → EachIs (λ m. IsNamed m.constant.path) opening.includes
  pub spelled : (path : Path) → index.has_file path ≡ true → is_there (index.place path) ≡ true

-- the parameters of a request stand
abbrev pub ParamsStand : Index → Task → Type 0
ParamsStand index (task.File file) = Unit {0}
ParamsStand index (task.Const path) = Unit {0}
ParamsStand index (task.Ancestors path) = Unit {0}
ParamsStand index (task.Request request) = EachIs (PairStands index) request.params
