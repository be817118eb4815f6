-- Worked runs. `class A`; `class B < A` with `include M` and `include N`; modules M and N; `class H` with
-- `def self.hi(p)`, whose body is `X`; and `X = nil`: each in a file of its own.
use Rattle.std.proofs.Common.{◌≡◌, ℕ, Bool, true, false, List, [], ◌∷◌, Option, Some, None, refl, codes, bytes_eq}
use Rattle.std.specs.Prelude.{◌++◌, if◌then◌else◌}
use Rattle.std.specs.Fmt.{decimal}
use Rattle.by_need.specs.Asking.{over, Outcome, Done, Raised, Asks}
use Rattle.ruby_types.specs.declared.tree.ConstRef.{ConstRef}
use Rattle.ruby_types.specs.declared.tree.Expr.TheVariants as expr
use Rattle.ruby_types.specs.declared.tree.Stmt.TheVariants as stmt
use Rattle.ruby_types.specs.declared.value.Value.{Value}
use Rattle.ruby_types.specs.declared.value.Value.TheVariants.{Nil, Module, Array, outs-Array, outs-Module}
use Rattle.ruby_types.specs.declared.request.ErrorClass.TheVariants as class
use Rattle.ruby_types.specs.declared.request.RubyError.{RubyError}
use Rattle.ruby_types.specs.declared.request.Request.{Request}
use Rattle.ruby_types.specs.declared.request.Task.{Task}
use Rattle.ruby_types.specs.declared.request.Task.TheVariants as task
use Rattle.ruby_builtin_base.specs.declared.called.Called.TheVariants as called
use Rattle.program_places.specs.Paths.{Path, same_path}
use Rattle.program_places.specs.Places.{Index, Place, Missing, Owned, Content, Assigned, Opened, Mention, Method}
use Rattle.program_places.specs.Places.{Statements, Absent}
use Rattle.ruby_runs.specs.declared.NoReply.{NoReply}
use Rattle.ruby_runs.specs.BuiltIns.{BuiltIns}
use Rattle.ruby_runs.specs.Doing.{Here}
use Rattle.ruby_runs.specs.Bodies.{Call, call_at}
use Rattle.ruby_runs.specs.Runs.{Limits, meaning}
use Rattle.ruby_runs.proofs.Layers.{eval_of_const, exec_of_expr}

abbrev one : ℕ → Path
one letter = (letter ∷ []) ∷ []

abbrev A : Path
A = one 65

abbrev B : Path
B = one 66

abbrev H : Path
H = one 72

abbrev M : Path
M = one 77

abbrev N : Path
N = one 78

abbrev X : Path
X = one 88

abbrev written : Path → ConstRef
written path = record { top = false; path = path }

abbrev mention : Path → List Path → Mention
mention path scopes = record { constant = written path; scopes = scopes }

abbrev opened : Bool → Option Mention → List Mention → List Method → Content
opened is_class parent includes singles =
    Opened (record { is_class = is_class; parent = parent; includes = includes; singles = singles; instances = [] })

abbrev hi : Method
hi = record {
  name = codes "hi";
  params = codes "p" ∷ [];
  body = Statements (stmt.Expr (expr.Const (written X)) ∷ []);
  scopes = H ∷ [];
  file = codes "h.rb";
}

-- what stands at a path, by rows of paths, files and contents
abbrev place_in : List (Path × List ℕ × Content) → Path → Place
place_in [] path = Missing
place_in (row ∷ rows) path = if same_path row.0 path then Owned row.1 row.2 else place_in rows path

abbrev places : Path → Place
places = place_in ((A, codes "a.rb", opened true None [] [])
    ∷ (B, codes "b.rb", opened true (Some (mention A [])) (mention M (B ∷ []) ∷ mention N (B ∷ []) ∷ []) [])
    ∷ (H, codes "h.rb", opened true None [] (hi ∷ []))
    ∷ (M, codes "m.rb", opened false None [] [])
    ∷ (N, codes "n.rb", opened false None [] [])
    ∷ (X, codes "x.rb", Assigned expr.Nil [])
    ∷ [])

abbrev index : Index
index = record {
  place = places;
  loading = λ file. Absent;
  near = λ from to. bytes_eq from to;
  controller = λ segments. segments;
  has_file = λ path. true;
}

-- no built-in methods
abbrev no_rows : BuiltIns
no_rows = record { called = λ left on name args. called.NoMethod; to_s = λ on. []; inspect = λ on. [] }

abbrev limits : ℕ → Limits
limits turns = record { task_turns = 100000; request_turns = turns; frames = 2 }

-- Each constant, and that a class or module is its own only ancestor.
abbrev known : Task → Option Value
known (task.File path) = Some Nil
known (task.Const path) = Some (Module path)
known (task.Ancestors path) = Some (Array (Module path ∷ []))
known (task.Request request) = None

abbrev run : ℕ → Task → (Task → Option Value) → Outcome Task Value RubyError NoReply
run turns t K = over K (meaning index no_rows (limits turns) t)

-- The parent is asked for first, and the members of the last include stand before those of the first.
ancestors_of_B : (run 200000 (task.Ancestors B) known).answer
    ≡ Done (Array (Module B ∷ Module N ∷ Module M ∷ Module A ∷ []))
ancestors_of_B = rw (
  outs-Array (Module A ∷ []),
  outs-Array (Module M ∷ []),
  outs-Array (Module N ∷ []),
  outs-Module A,
  outs-Module M,
  outs-Module N,
) refl

nothing_known : (run 200000 (task.Ancestors B) (λ t. None)).answer ≡ Asks (task.File (codes "a.rb"))
nothing_known = refl

-- a request of the controller H and the action hi
abbrev request : Request
request = record { controller = H; action = codes "hi"; params = [] }

abbrev hi_here : Here
hi_here = record { file = Some (codes "h.rb"); scopes = H ∷ []; limit = 200000 }

abbrev call : Call
call = call_at index no_rows 1

-- File and Const of the controller; then, behind the call and the segment of X, Ancestors of H; File and Const of X
asked_by_request : (run 200000 (task.Request request) known).asked
    ≡ task.File (codes "h.rb") ∷ task.Const H ∷ task.Ancestors H ∷ task.File (codes "x.rb") ∷ task.Const X ∷ []
asked_by_request = rw (
  outs-Module H,
  exec_of_expr index no_rows call hi_here (expr.Const (written X)),
  eval_of_const index no_rows call hi_here (written X),
  outs-Array (Module H ∷ []),
  outs-Module H,
) refl

-- Each asked task costs a turn: with one turn the second task isn't asked for.
one_turn : (run 1 (task.Request request) known).answer
    ≡ Raised (record {
      class = class.TurnBudget;
      message = codes "turn budget of " ++ (decimal 1 ++ codes " spent");
      path = [];
    })
one_turn = refl

-- A file that is missing here: the error has the path of the file with the class.
abbrev without_A : Index
without_A = record {
  place = λ path. if same_path path A then Missing else places path;
  loading = λ file. Absent;
  near = λ from to. bytes_eq from to;
  controller = λ segments. segments;
  has_file = λ path. true;
}

no_parent : (over known (meaning without_A no_rows (limits 200000) (task.Ancestors B))).answer
    ≡ Raised (record { class = class.Name; message = codes "uninitialized constant A"; path = codes "b.rb" })
no_parent = refl
