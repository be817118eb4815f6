-- What tasks are found by in a table: their kind and their path.
use Rattle.std.specs.Prelude.{◌≡◌, ℕ, Bool, List, [], ◌∷◌, ◌&&◌, nat_eq, bytes_eq, IsTrue}
use Rattle.std.specs.Cmp.Lexicographic.{pointwise, pointwise_decides, bytes_decides, lists_equiv, nat_list_eq_equiv}
use Rattle.std.specs.Cmp.{IsEquivalence, and_equiv, on_equiv, nat_eq_equiv}
use Rattle.ruby_types.specs.declared.request.Task.{Task}
use Rattle.std.proofs.Common.{ap₂}
use Rattle.std.proofs.lemmas.Bool.{and_parts, eqb-true}
use Rattle.task_keys.specs.Names.{task_rank, task_path}

-- Two tasks are of one kind and path.
abbrev pub same_key : Task → Task → Bool
same_key a b = nat_eq (task_rank a) (task_rank b) && pointwise bytes_eq (task_path a) (task_path b)

-- What is written of a task to be hashed.
abbrev pub key_writes : Task → List (List ℕ)
key_writes task = (task_rank task ∷ []) ∷ task_path task

-- Being of one kind and path is an equivalence.
pub key_equivalence : IsEquivalence same_key
key_equivalence = and_equiv (on_equiv task_rank nat_eq_equiv) (on_equiv task_path (lists_equiv nat_list_eq_equiv))

-- Tasks of one kind and path are hashed alike.
pub writes_respect_keys : (a b : Task) → IsTrue (same_key a b) → key_writes a ≡ key_writes b
writes_respect_keys a b same =
    let parts = and_parts (nat_eq (task_rank a) (task_rank b)) (pointwise bytes_eq (task_path a) (task_path b)) same in
    ap₂ (λ rank path. (rank ∷ []) ∷ path) (eqb-true _ _ parts.0) ((pointwise_decides bytes_decides _ _).0 parts.1)
