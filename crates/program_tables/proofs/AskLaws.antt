-- What loading files asks for by tables and outcomes is what it asks for by what the files say.
use Rattle.std.proofs.Common.{◌≡◌, ◌∙◌, ℕ, zero, suc, ◌<◌, ◌-◌, Bool}
use Rattle.std.proofs.Common.{true, false, not, ◌&&◌, cond, List, [], ◌∷◌, ◌++◌}
use Rattle.std.proofs.Common.{map, filter, filter_map, flat_map, take, length, Option, Some, None, is_some, slice_get}
use Rattle.std.proofs.Common.{refl, sym, ap, subst, arith}
use Rattle.std.specs.List.{cons_option}
use Rattle.std.specs.Option.{option_map}
use Rattle.std.proofs.lemmas.List.{length-map}
use Rattle.std.proofs.lemmas.Option.{slice_get-map}
use Rattle.outside.specs.declared.files.FileEntry.{FileEntry}
use Rattle.ruby_types.specs.declared.request.RubyError.{RubyError}
use Rattle.ruby_types.specs.declared.request.Task.{Task}
use Rattle.ruby_types.specs.declared.request.Task.TheVariants as task
use Rattle.program_places.specs.Paths.{Name, Path, same_path, begins, levels}
use Rattle.program_files.specs.Files.{UsedFile, file_of, is_above}
use Rattle.program_files.specs.Faults.{file_fault}
use Rattle.program_files.specs.Tasks.{around_files, inner_tasks, tasks_by}
use Rattle.program_files.proofs.Index.{file_found}
use Rattle.program_files.proofs.Paths.{name_itself}
use Rattle.program_constants.specs.Constants.{first_place}
use Rattle.program_used.specs.Rows.{used_at, all_used}
use Rattle.program_used.specs.declared.used.UsedText.{UsedText}
use Rattle.program_outcomes.specs.declared.outcome.Outcome.{Outcome}
use Rattle.program_outcomes.specs.Outcomes.{HasOutcome, HaveOutcomes, IsOutcome}
use Rattle.program_tables.specs.Asks.{level_task, levels_above, around_tasks, behind, asks_by_fault, asks_at, all_asks}
use Rattle.program_tables.specs.Asks.{asks_in, asks_by}

-- ---- the levels above a path

-- a level of a path is its front
pub level_at : (path : Path) (k : ℕ) → k < length path → slice_get (levels path) k ≡ Some (take (suc k) path)
level_at [] k lt = absurd (omega (arith, lt))
level_at (n ∷ ns) zero lt = refl
level_at (n ∷ ns) (suc k) lt =
    slice_get-map (λ (q : Path). n ∷ q) (levels ns) k
    ∙ ap (option_map (λ (q : Path). n ∷ q)) (level_at ns k (omega (arith, lt)))

-- a path has a level for each of its names
pub levels_length : (path : Path) → length (levels path) ≡ length path
levels_length [] = refl
levels_length (n ∷ ns) = ap suc (length-map (levels ns) (λ (q : Path). n ∷ q) ∙ levels_length ns)

-- the paths behind a name that are above a path
abbrev above_in : Name → Path → List Path → List Path
above_in n path ps = filter (λ p. is_above p path) (map (λ q. n ∷ q) ps)

above_behind : (n : Name) (ns : Path) (ps : List Path) →
    filter (λ p. is_above p (n ∷ ns)) (map (λ q. n ∷ q) ps) ≡ map (λ q. n ∷ q) (filter (λ q. is_above q ns) ps)
above_behind n ns [] = refl
above_behind n ns (p ∷ ps) =
    ap (λ b. cond ((b && begins p ns) && not (b && begins ns p)) ((n ∷ p) ∷ above_in n (n ∷ ns) ps)
    (above_in n (n ∷ ns) ps)) (name_itself n)
    ∙ at (is_above p ns) (above_behind n ns ps) where
      at : (b : Bool) →
          filter (λ p. is_above p (n ∷ ns)) (map (λ q. n ∷ q) ps) ≡ map (λ q. n ∷ q) (filter (λ q. is_above q ns) ps) →
          cond b ((n ∷ p) ∷ filter (λ p. is_above p (n ∷ ns)) (map (λ q. n ∷ q) ps))
          (filter (λ p. is_above p (n ∷ ns)) (map (λ q. n ∷ q) ps))
          ≡ map (λ q. n ∷ q) (cond b (p ∷ filter (λ q. is_above q ns) ps) (filter (λ q. is_above q ns) ps))
      at true ih = ap (λ xs. (n ∷ p) ∷ xs) ih
      at false ih = ih

map_take : (n : Name) (k : ℕ) (ps : List Path) → map (λ q. n ∷ q) (take k ps) ≡ take k (map (λ q. n ∷ q) ps)
map_take n zero ps = refl
map_take n (suc k) [] = refl
map_take n (suc k) (p ∷ ps) = ap (λ xs. (n ∷ p) ∷ xs) (map_take n k ps)

above_is : (n : Name) (ns : Path) → take (length ns) (levels (n ∷ ns)) ≡ levels_above (n ∷ ns)
above_is n [] = sym (ap (λ b. cond ((b && true) && not (b && true)) ((n ∷ []) ∷ []) []) (name_itself n))
above_is n (m ∷ ms) =
    ap (λ xs. (n ∷ []) ∷ xs) (sym (map_take n (length ms) (levels (m ∷ ms)))
    ∙ ap (map (λ q. n ∷ q)) (above_is m ms) ∙ sym (above_behind n (m ∷ ms) (levels (m ∷ ms))))
    ∙ sym (ap (λ b. cond ((b && true) && not (b && false)) ((n ∷ []) ∷ above_in n (n ∷ m ∷ ms) (levels (m ∷ ms)))
    (above_in n (n ∷ m ∷ ms) (levels (m ∷ ms)))) (name_itself n))

take_nothing : (k : ℕ) → take k (levels []) ≡ []
take_nothing zero = refl
take_nothing (suc k) = refl

-- the levels above a path are all but the last
pub above_all : (path : Path) (k : ℕ) → k ≡ length path - 1 → take k (levels path) ≡ levels_above path
above_all [] k e = take_nothing k
above_all (n ∷ ns) k e =
    let last : length ns ≡ k = omega (arith, e) in
    subst (λ m. take m (levels (n ∷ ns)) ≡ levels_above (n ∷ ns)) last (above_is n ns)

-- ---- the files around a file

spelled_at : (o : Option ℕ) → is_some (option_map suc o) ≡ is_some o
spelled_at None = refl
spelled_at (Some k) = refl

-- a path is spelled where it has a file
pub spelled_found : (fs : List UsedFile) (p : Path) →
    is_some (first_place p (map (λ (f : UsedFile). f.constant) fs)) ≡ is_some (file_of fs p)
spelled_found [] p = refl
spelled_found (f ∷ fs) p =
    at (same_path f.constant p)
    (spelled_at (first_place p (map (λ (f : UsedFile). f.constant) fs)) ∙ spelled_found fs p) where
      at : (b : Bool) →
          is_some (option_map suc (first_place p (map (λ (f : UsedFile). f.constant) fs))) ≡ is_some (file_of fs p) →
          is_some (cond b (Some 0) (option_map suc (first_place p (map (λ (f : UsedFile). f.constant) fs))))
          ≡ is_some (cond b (Some f) (file_of fs p))
      at true ih = refl
      at false ih = ih

abbrev file_const : UsedFile → Task
file_const f = task.Const f.constant

level_told : (fs : List UsedFile) (p : Path) (o : Option UsedFile) → file_of fs p ≡ o → (rest : List UsedFile) →
    cond (is_some o) (task.Const p ∷ []) [] ++ map file_const rest ≡ map file_const (cons_option o rest)
level_told fs p None e rest = refl
level_told fs p (Some f) e rest =
    ap (λ q. task.Const q ∷ map file_const rest) (sym (file_found fs p f e).1)

around_told : (fs : List UsedFile) (c : Path) (ps : List Path) →
    flat_map (level_task (map (λ (f : UsedFile). f.constant) fs)) (filter (λ p. is_above p c) ps)
    ≡ map file_const (filter_map (λ p. cond (is_above p c) (file_of fs p) None) ps)
around_told fs c [] = refl
around_told fs c (p ∷ ps) = at (is_above p c) (around_told fs c ps) where
  at : (b : Bool) →
      flat_map (level_task (map (λ (f : UsedFile). f.constant) fs)) (filter (λ p. is_above p c) ps)
      ≡ map file_const (filter_map (λ p. cond (is_above p c) (file_of fs p) None) ps) →
      flat_map (level_task (map (λ (f : UsedFile). f.constant) fs))
      (cond b (p ∷ filter (λ p. is_above p c) ps) (filter (λ p. is_above p c) ps))
      ≡ map file_const (cons_option (cond b (file_of fs p) None)
      (filter_map (λ p. cond (is_above p c) (file_of fs p) None) ps))
  at false ih = ih
  at true ih =
      ap (λ xs. level_task (map (λ (f : UsedFile). f.constant) fs) p ++ xs) ih
      ∙ ap (λ b. cond b (task.Const p ∷ []) []
      ++ map file_const (filter_map (λ p. cond (is_above p c) (file_of fs p) None) ps)) (spelled_found fs p)
      ∙ level_told fs p (file_of fs p) refl (filter_map (λ p. cond (is_above p c) (file_of fs p) None) ps)

-- the tasks of the namespaces around a file are those of the files around it
pub around_is : (fs : List UsedFile) (f : UsedFile) →
    around_tasks (map (λ (f : UsedFile). f.constant) fs) f.constant ≡ map file_const (around_files fs f)
around_is fs f = around_told fs f.constant (levels f.constant)

-- ---- what files ask for

by_fault : (all : List UsedFile) (f : UsedFile) (o : Option RubyError) → file_fault all f ≡ o → (tasks : List Task) →
    tasks ≡ tasks_by f o →
    asks_by_fault (map (λ (g : UsedFile). g.constant) all) f.constant tasks o ≡ asks_in all f o
by_fault all f (Some error) e tasks t = refl
by_fault all f None e tasks t =
    ap (λ ts. Some (around_tasks (map (λ (g : UsedFile). g.constant) all) f.constant ++ behind ts)) t
    ∙ ap (λ xs. Some (xs ++ inner_tasks f)) (around_is all f)

one_told : (all : List UsedFile) (f : UsedFile) (outcome : Outcome) → IsOutcome all f outcome →
    asks_by_fault (map (λ (g : UsedFile). g.constant) all) f.constant outcome.tasks outcome.fault
    ≡ asks_in all f (file_fault all f)
one_told all f outcome is =
    ap (asks_by_fault (map (λ (g : UsedFile). g.constant) all) f.constant outcome.tasks) is.fault
    ∙ by_fault all f (file_fault all f) refl outcome.tasks is.tasks

ask_told : (all : List UsedFile) (file : FileEntry) (text : Option UsedText) (outcome : Option Outcome) →
    HasOutcome all (used_at file text) outcome →
    asks_at (map (λ (g : UsedFile). g.constant) all) text outcome ≡ asks_by all (used_at file text)
ask_told all file None outcome h = refl
ask_told all file (Some used) None h = absurd h
ask_told all file (Some used) (Some outcome) h = one_told all _ outcome h

-- what files ask for by their outcomes is what they ask for
pub asks_told : (all : List UsedFile) (files : List FileEntry) (texts : List (Option UsedText))
    (outcomes : List (Option Outcome)) → length texts ≡ length files →
    HaveOutcomes all (all_used files texts) outcomes →
    all_asks (map (λ (g : UsedFile). g.constant) all) texts outcomes ≡ map (asks_by all) (all_used files texts)
asks_told all [] [] outcomes e h = refl
asks_told all [] (t ∷ texts) outcomes e h = absurd (omega (arith, e))
asks_told all (f ∷ files) [] outcomes e h = absurd (omega (arith, e))
asks_told all (f ∷ files) (t ∷ texts) [] e h = absurd h
asks_told all (f ∷ files) (t ∷ texts) (o ∷ outcomes) e h =
    ap (λ x. x ∷ all_asks (map (λ (g : UsedFile). g.constant) all) texts outcomes) (ask_told all f t o h.0)
    ∙ ap (λ xs. asks_by all (used_at f t) ∷ xs) (asks_told all files texts outcomes (omega (arith, e)) h.1)

-- one file more asks for more
pub asks_more : (spelled : List Path) (texts : List (Option UsedText)) (outcomes : List (Option Outcome))
    (t : Option UsedText) (o : Option Outcome) → length outcomes ≡ length texts →
    all_asks spelled (texts ++ t ∷ []) (outcomes ++ o ∷ [])
    ≡ all_asks spelled texts outcomes ++ asks_at spelled t o ∷ []
asks_more spelled [] [] t o e = refl
asks_more spelled [] (p ∷ outcomes) t o e = absurd (omega (arith, e))
asks_more spelled (s ∷ texts) [] t o e = absurd (omega (arith, e))
asks_more spelled (s ∷ texts) (p ∷ outcomes) t o e =
    ap (λ xs. asks_at spelled s p ∷ xs) (asks_more spelled texts outcomes t o (omega (arith, e)))
