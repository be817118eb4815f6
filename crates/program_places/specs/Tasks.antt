-- What the tasks of an index are to have in them.
use Rattle.std.specs.Prelude.{◌≡◌, ℕ, List, [], ◌∷◌}
use Rattle.ruby_types.specs.declared.request.RubyError.{RubyError}
use Rattle.ruby_types.specs.declared.request.Task.{Task}
use Rattle.ruby_types.specs.declared.request.Task.TheVariants as task
use Rattle.program_places.specs.Paths.{Path}
use Rattle.program_places.specs.Places.{Index, Owned, Content, Faulty, Opened, Opening, AsksFor}

-- Each member of a list is so.
abbrev pub EachIs : {A : Type 0} → (A → Type 0) → List A → Type 0
EachIs P [] = Unit {0}
EachIs P (x ∷ xs) = P x × EachIs P xs

-- Where a file owns a constant, that file and the constant are tasks, and so are the ancestors of a class or module and
-- of a constant whose file is at fault; and what a file asks for are tasks.
pub record HasTasks (index : Index) (IsTask : Task → Type 0) : Type 0 where
  pub file : (path : Path) (file : List ℕ) (content : Content) →
      index.place path ≡ Owned file content → IsTask (task.File file)
  pub const : (path : Path) (file : List ℕ) (content : Content) →
      index.place path ≡ Owned file content → IsTask (task.Const path)
  pub faulty : (path : Path) (file : List ℕ) (error : RubyError) →
      index.place path ≡ Owned file (Faulty error) → IsTask (task.Ancestors path)
  pub opened : (path : Path) (file : List ℕ) (opening : Opening) →
      index.place path ≡ Owned file (Opened opening) → IsTask (task.Ancestors path)
  pub asks : (file : List ℕ) (tasks : List Task) → index.loading file ≡ AsksFor tasks → EachIs IsTask tasks
