-- What stands at a path by the tables of files is what stands there by what the files say.
use Rattle.std.proofs.Common.{◌≡◌, ℕ, zero, suc, ◌+◌, Bool, true, false, cond, List, [], ◌∷◌, ◌++◌, map, Option, Some}
use Rattle.std.proofs.Common.{None, is_some, slice_get, ◌||◌, inl, inr, refl, sym, ap, ◌∙◌, subst, arith}
use Rattle.std.specs.List.{list_any}
use Rattle.std.specs.Option.{option_map}
use Rattle.std.proofs.lemmas.Bool.{false≢true}
use Rattle.std.proofs.lemmas.Option.{none-some, same_Some, slice_get-map}
use Rattle.ruby_types.specs.declared.request.Task.{Task}
use Rattle.ruby_types.specs.declared.request.Task.TheVariants as task
use Rattle.program_places.specs.Paths.{Path, same_path, begins}
use Rattle.program_places.specs.Places.{Missing, Implicit, Owned, Content}
use Rattle.program_files.specs.Files.{UsedFile, has_site}
use Rattle.program_files.specs.Faults.{file_fault}
use Rattle.program_files.specs.Contents.{place_of}
use Rattle.program_files.specs.Members.{Among}
use Rattle.program_files.specs.Owners.{OneFile}
use Rattle.program_files.specs.Tasks.{file_tasks}
use Rattle.program_files.proofs.Lists.{among_right}
use Rattle.program_files.proofs.Paths.{path_decides}
use Rattle.program_constants.specs.Constants.{has_site_among}
use Rattle.program_owners.specs.declared.owned.Owned.{Owned as OwnedRow}
use Rattle.program_owners.specs.Owned.{owner_in}
use Rattle.program_resolve.specs.Resolve.{namespace_or_nothing}
use Rattle.program_resolve.proofs.Standing.{task_owned, no_owner_stands}
use Rattle.program_standing.specs.declared.standing.Standing.{Standing}
use Rattle.program_standing.specs.declared.standing.Standing.TheVariants as standing
use Rattle.program_standing.specs.Tables.{is_marked, is_faulty, unowned, standing_by, standing_of}
use Rattle.program_outcomes.specs.Outcomes.{listed_one, listed, tasks_by}
use Rattle.program_tables.specs.Tables.{owned_tasks, owned_from, is_at_fault, tables_of}
use Rattle.program_tables.specs.Said.{Says, is_fault}
use Rattle.program_tables.proofs.SaidLaws.{fault_said, place_said}

-- ---- owners in rows

abbrev or_owner : Option ℕ → Option ℕ → Option ℕ
or_owner None other = other
or_owner (Some file) other = Some file

owner_append : (path : Path) (xs ys : List OwnedRow) →
    owner_in path (xs ++ ys) ≡ or_owner (owner_in path xs) (owner_in path ys)
owner_append path [] ys = refl
owner_append path (o ∷ xs) ys = at (same_path o.path path) (owner_append path xs ys) where
  at : (b : Bool) → owner_in path (xs ++ ys) ≡ or_owner (owner_in path xs) (owner_in path ys) →
      cond b (Some o.file) (owner_in path (xs ++ ys))
      ≡ or_owner (cond b (Some o.file) (owner_in path xs)) (owner_in path ys)
  at true ih = refl
  at false ih = ih

-- a row that is found is a task's
task_row : (path : Path) (n k : ℕ) (ts : List Task) → owner_in path (owned_tasks n ts) ≡ Some k →
    (n ≡ k) × Among (task.Const path) ts
task_row path n k [] e = absurd (none-some k e)
task_row path n k (task.File file ∷ ts) e = let i = task_row path n k ts e in (i.0, inr i.1)
task_row path n k (task.Ancestors p ∷ ts) e = let i = task_row path n k ts e in (i.0, inr i.1)
task_row path n k (task.Request request ∷ ts) e = let i = task_row path n k ts e in (i.0, inr i.1)
task_row path n k (task.Const p ∷ ts) e = at (same_path p path) refl (task_row path n k ts) e where
  at : (b : Bool) → same_path p path ≡ b →
      (owner_in path (owned_tasks n ts) ≡ Some k → (n ≡ k) × Among (task.Const path) ts) →
      cond b (Some n) (owner_in path (owned_tasks n ts)) ≡ Some k →
      (n ≡ k) × Among (task.Const path) (task.Const p ∷ ts)
  at true q ih h = (same_Some n k h, inl (ap task.Const (sym ((path_decides p path).0 q))))
  at false q ih h = let i = ih h in (i.0, inr i.1)

-- where no row is found, there is no task
no_task_row : (path : Path) (n : ℕ) (ts : List Task) → owner_in path (owned_tasks n ts) ≡ None →
    Among (task.Const path) ts → ⊥
no_task_row path n [] e m = absurd m
no_task_row path n (task.File file ∷ ts) e (inl q) = absurd cc
no_task_row path n (task.File file ∷ ts) e (inr m) = no_task_row path n ts e m
no_task_row path n (task.Ancestors p ∷ ts) e (inl q) = absurd cc
no_task_row path n (task.Ancestors p ∷ ts) e (inr m) = no_task_row path n ts e m
no_task_row path n (task.Request request ∷ ts) e (inl q) = absurd cc
no_task_row path n (task.Request request ∷ ts) e (inr m) = no_task_row path n ts e m
no_task_row path n (task.Const p ∷ ts) e m = at (same_path p path) refl (no_task_row path n ts) e m where
  at : (b : Bool) → same_path p path ≡ b →
      (owner_in path (owned_tasks n ts) ≡ None → Among (task.Const path) ts → ⊥) →
      cond b (Some n) (owner_in path (owned_tasks n ts)) ≡ None → Among (task.Const path) (task.Const p ∷ ts) → ⊥
  at true q ih h m = absurd (none-some n (sym h))
  at false q ih h (inl same) =
      let is : p ≡ path = cc in false≢true (sym q ∙ (path_decides p path).1 is)
  at false q ih h (inr m) = ih h m

module _ (all : List UsedFile) where
  -- whose row is found: the number's file, counted from this one on
  pub record Row (n k : ℕ) (us : List (Option UsedFile)) (path : Path) : Type 0 where
    pub place : ℕ
    pub number : k ≡ n + place
    pub file : UsedFile
    pub at : slice_get us place ≡ Some (Some file)
    pub task : Among (task.Const path) (file_tasks all file)

  row_here : (n k : ℕ) (u : Option UsedFile) (us : List (Option UsedFile)) (path : Path) → n ≡ k →
      Among (task.Const path) (tasks_by all u) → Row n k (u ∷ us) path
  row_here n k None us path e m = absurd m
  row_here n k (Some file) us path e m =
      record { place = 0; number = omega (arith, e); file = file; at = refl; task = m }

  row_behind : (n k : ℕ) (u : Option UsedFile) (us : List (Option UsedFile)) (path : Path) → Row (suc n) k us path →
      Row n k (u ∷ us) path
  row_behind n k u us path r =
      record { place = suc r.place; number = omega (arith, r.number); file = r.file; at = r.at; task = r.task }

  -- a row that is found is of a file that has the constant as a task
  pub row_found : (n k : ℕ) (us : List (Option UsedFile)) (path : Path) → owner_in path (owned_from all n us) ≡ Some k →
      Row n k us path
  row_found n k [] path e = absurd (none-some k e)
  row_found n k (u ∷ us) path e =
      at (owner_in path (owned_tasks n (tasks_by all u))) refl (row_found (suc n) k us path)
      (sym (owner_append path (owned_tasks n (tasks_by all u)) (owned_from all (suc n) us)) ∙ e) where
        at : (o : Option ℕ) → owner_in path (owned_tasks n (tasks_by all u)) ≡ o →
            (owner_in path (owned_from all (suc n) us) ≡ Some k → Row (suc n) k us path) →
            or_owner o (owner_in path (owned_from all (suc n) us)) ≡ Some k → Row n k (u ∷ us) path
        at None q ih h = row_behind n k u us path (ih h)
        at (Some m) q ih h =
            let t = task_row path n m (tasks_by all u) q in
            row_here n k u us path (t.0 ∙ same_Some m k h) t.1

  -- where none is found, no file has it
  pub no_row_found : (n : ℕ) (us : List (Option UsedFile)) (path : Path) → owner_in path (owned_from all n us) ≡ None →
      (file : UsedFile) → Among file (listed us) → Among (task.Const path) (file_tasks all file) → ⊥
  no_row_found n [] path e file m h = absurd m
  no_row_found n (u ∷ us) path e file m h =
      at (owner_in path (owned_tasks n (tasks_by all u))) refl (λ q l. no_row_found (suc n) us path q file l h)
      (sym (owner_append path (owned_tasks n (tasks_by all u)) (owned_from all (suc n) us)) ∙ e) u refl m where
        at : (o : Option ℕ) → owner_in path (owned_tasks n (tasks_by all u)) ≡ o →
            (owner_in path (owned_from all (suc n) us) ≡ None → Among file (listed us) → ⊥) →
            or_owner o (owner_in path (owned_from all (suc n) us)) ≡ None → (v : Option UsedFile) → u ≡ v →
            Among file (listed_one v ++ listed us) → ⊥
        at (Some m) q ih k v s l = absurd (none-some m (sym k))
        at None q ih k None s l = ih k l
        at None q ih k (Some g) s (inl same) =
            no_task_row path n (tasks_by all u) q
            (subst (λ w. Among (task.Const path) (tasks_by all w)) (sym s)
            (subst (λ x. Among (task.Const path) (file_tasks all x)) same h))
        at None q ih k (Some g) s (inr l) = ih k l

-- a file at a number is listed
pub among_listed : (us : List (Option UsedFile)) (n : ℕ) (file : UsedFile) → slice_get us n ≡ Some (Some file) →
    Among file (listed us)
among_listed [] n file e = absurd (none-some (Some file) e)
among_listed (u ∷ us) zero file e = at u (same_Some u (Some file) e) where
  at : (v : Option UsedFile) → v ≡ Some file → Among file (listed (v ∷ us))
  at None q = absurd (none-some file q)
  at (Some g) q = inl (sym (same_Some g file q))
among_listed (u ∷ us) (suc n) file e = among_right file (listed_one u) (listed us) (among_listed us n file e)

-- the constants that are spelled have the sites of the files
site_spelled : (fs : List UsedFile) (path : Path) →
    list_any (begins path) (map (λ (f : UsedFile). f.constant) fs) ≡ list_any (λ f. begins path f.constant) fs
site_spelled [] path = refl
site_spelled (f ∷ fs) path = ap (λ b. begins path f.constant || b) (site_spelled fs path)

-- a path has a site among the constants that are spelled where it has one of the files
pub sites_told : (fs : List UsedFile) (path : Path) →
    has_site_among (map (λ (f : UsedFile). f.constant) fs) path ≡ has_site fs path
sites_told fs [] = at (map (λ (f : UsedFile). f.constant) fs) where
  at : (cs : List Path) → has_site_among cs [] ≡ false
  at cs = refl
sites_told fs (name ∷ names) = site_spelled fs (name ∷ names)

module _ (us : List (Option UsedFile)) (one : OneFile (listed us)) where
  -- the file of a number owns a path, and what it says of it
  pub record OwnedBy (n : ℕ) (path : Path) : Type 0 where
    pub file : UsedFile
    pub at : slice_get us n ≡ Some (Some file)
    pub content : Content
    pub is : place_of (listed us) path ≡ Owned file.path content
    pub says : Says file path content (file_fault (listed us) file)
    pub faulty : is_faulty (tables_of us) n ≡ is_fault content

  -- what the tables tell of a path is so
  abbrev pub StandsAs : Standing → Path → Type 0
  StandsAs standing.Missing path = place_of (listed us) path ≡ Missing
  StandsAs standing.Implicit path = place_of (listed us) path ≡ Implicit
  StandsAs (standing.Owned n) path = OwnedBy n path

  marked : (n : ℕ) (file : UsedFile) → slice_get us n ≡ Some (Some file) →
      is_faulty (tables_of us) n ≡ is_some (file_fault (listed us) file)
  marked n file e = ap is_marked (slice_get-map (is_at_fault (listed us)) us n
      ∙ ap (option_map (is_at_fault (listed us))) e)

  owned_by_row : (n : ℕ) (path : Path) → Row (listed us) 0 n us path → OwnedBy n path
  owned_by_row n path r =
      let number : r.place ≡ n = omega (arith, r.number) in
      let at : slice_get us n ≡ Some (Some r.file) = subst (λ k. slice_get us k ≡ Some (Some r.file)) number r.at in
      let among = among_listed us n r.file at in
      let owned = task_owned (listed us) one r.file path among r.task in
      let said = place_said (listed us) path r.file.path owned.0 owned.1 in
      let same : said.file ≡ r.file = one.paths said.file r.file said.among among said.owns in
      let says : Says r.file path owned.0 (file_fault (listed us) r.file) =
      subst (λ f. Says f path owned.0 (file_fault (listed us) f)) same said.says in
      record {
        file = r.file;
        at = at;
        content = owned.0;
        is = owned.1;
        says = says;
        faulty = marked n r.file at ∙ fault_said r.file path owned.0 (file_fault (listed us) r.file) says;
      }

  -- a path that no row is of is a namespace or nothing
  pub unowned_stands : (path : Path) → owner_in path (owned_from (listed us) 0 us) ≡ None →
      place_of (listed us) path
      ≡ namespace_or_nothing (has_site_among (map (λ (f : UsedFile). f.constant) (listed us)) path)
  unowned_stands path e =
      no_owner_stands (listed us) path (no_row_found (listed us) 0 us path e)
      ∙ ap namespace_or_nothing (sym (sites_told (listed us) path))

  -- a path with a row is owned by the row's file
  pub owned_stands : (path : Path) (n : ℕ) → owner_in path (owned_from (listed us) 0 us) ≡ Some n → OwnedBy n path
  owned_stands path n e = owned_by_row n path (row_found (listed us) 0 n us path e)

  stands_by : (path : Path) (o : Option ℕ) → owner_in path (owned_from (listed us) 0 us) ≡ o →
      StandsAs (standing_by o (has_site_among (map (λ (f : UsedFile). f.constant) (listed us)) path)) path
  stands_by path (Some n) e = owned_stands path n e
  stands_by path None e =
      bare (has_site_among (map (λ (f : UsedFile). f.constant) (listed us)) path) (unowned_stands path e) where
        bare : (b : Bool) → place_of (listed us) path ≡ namespace_or_nothing b → StandsAs (unowned b) path
        bare true h = h
        bare false h = h

  -- what stands at a path by the tables stands there
  pub stands_told : (path : Path) → StandsAs (standing_of (tables_of us) path) path
  stands_told path = stands_by path (owner_in path (owned_from (listed us) 0 us)) refl
