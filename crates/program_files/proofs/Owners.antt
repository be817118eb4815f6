-- One owner for each constant: where files have distinct constants and paths, each task of a file is of a path that it
-- owns.
use Rattle.std.proofs.Common.{◌≡◌, ◌≢◌, ◌⊎◌, ℕ, Bool, true, false, not, ◌&&◌, ◌||◌, cond, List, [], ◌∷◌, ◌++◌, map}
use Rattle.std.proofs.Common.{filter, flat_map, Option, Some, None, find, inl, inr, refl, sym, ap, ◌∙◌, subst}
use Rattle.std.proofs.Common.{bytes_eq}
use Rattle.std.specs.List.{list_any}
use Rattle.std.specs.Cmp.Lexicographic.{bytes_decides}
use Rattle.std.proofs.lemmas.List.{map-append}
use Rattle.std.proofs.lemmas.Bool.{false≢true, and_parts, or_parts, or_left, or_right}
use Rattle.ruby_types.specs.declared.request.RubyError.{RubyError}
use Rattle.ruby_types.specs.declared.request.Request.{Request}
use Rattle.ruby_types.specs.declared.request.Task.{Task}
use Rattle.ruby_types.specs.declared.request.Task.TheVariants as task
use Rattle.program_places.specs.Paths.{Name, Path, same_path, begins, levels}
use Rattle.program_places.specs.Places.{Owned, Content, Faulty}
use Rattle.program_files.specs.Members.{Among}
use Rattle.program_files.specs.Entries.{Entry}
use Rattle.program_files.specs.Files.{UsedFile, entries, file_of, is_above, has_site}
use Rattle.program_files.specs.Faults.{Kind, a_module, a_class, a_value, kind_in, or_fault, unread, undefined_by}
use Rattle.program_files.specs.Faults.{more_than, no_module, own_file, is_outside, opens_around, is_definition}
use Rattle.program_files.specs.Faults.{levels_inside, inner_site, file_fault}
use Rattle.program_files.specs.Contents.{content_by, content_in, owned_by, nearest, place_of}
use Rattle.program_files.specs.Tasks.{once, defined_by, kind_tasks, inner_tasks, tasks_by, file_tasks}
use Rattle.program_files.specs.Owners.{OneFile}
use Rattle.program_files.proofs.Lists.{among_right, among_cases, among_filter, among_flat, among_map}
use Rattle.program_files.proofs.Paths.{path_decides, path_itself, name_itself, begins_itself}
use Rattle.program_files.proofs.Index.{file_found}

-- ---- lists

module _ {A : Type 0} where
  none_at : (test : A → Bool) (x y : A) (ys : List A) (b : Bool) → test y ≡ b → (find test ys ≡ None → Among x ys
      → test x ≡ false) → cond b (Some y) (find test ys) ≡ None → (x ≡ y) ⊎ Among x ys → test x ≡ false
  none_at test x y ys true e ih h m = absurd cc
  none_at test x y ys false e ih h (inl q) = ap test q ∙ e
  none_at test x y ys false e ih h (inr m) = ih h m

  -- where nothing is found, nothing passes
  pub none_found : (test : A → Bool) (x : A) (xs : List A) → find test xs ≡ None → Among x xs → test x ≡ false
  none_found test x [] h m = absurd m
  none_found test x (y ∷ ys) h m = none_at test x y ys (test y) refl (none_found test x ys) h m

  kept_at : (test : A → Bool) (a x : A) (xs : List A) (b : Bool) → test x ≡ b
      → (Among a (filter test xs) → Among a xs × (test a ≡ true))
      → Among a (cond b (x ∷ filter test xs) (filter test xs)) → ((a ≡ x) ⊎ Among a xs) × (test a ≡ true)
  kept_at test a x xs true e ih (inl q) = (inl q, ap test q ∙ e)
  kept_at test a x xs true e ih (inr h) = let i = ih h in (inr i.0, i.1)
  kept_at test a x xs false e ih h = let i = ih h in (inr i.0, i.1)

  -- what a test keeps was a member and passes it
  pub kept : (test : A → Bool) (a : A) (xs : List A) → Among a (filter test xs) → Among a xs × (test a ≡ true)
  kept test a [] h = absurd h
  kept test a (x ∷ xs) h = kept_at test a x xs (test x) refl (kept test a xs) h

  any_false : (test : A → Bool) (x : A) (xs : List A) → list_any test xs ≡ false → Among x xs → test x ≡ false
  any_false test x [] h m = absurd m
  any_false test x (y ∷ ys) h (inl q) = ap test q ∙ (or_parts (test y) (list_any test ys) h).0
  any_false test x (y ∷ ys) h (inr m) = any_false test x ys (or_parts (test y) (list_any test ys) h).1 m

  any_true : (test : A → Bool) (x : A) (xs : List A) → Among x xs → test x ≡ true → list_any test xs ≡ true
  any_true test x [] m h = absurd m
  any_true test x (y ∷ ys) (inl q) h = or_left (test y) (list_any test ys) (ap test (sym q) ∙ h)
  any_true test x (y ∷ ys) (inr m) h = or_right (test y) (list_any test ys) (any_true test x ys m h)

module _ {A B : Type 0} where
  -- what all give comes from a member
  pub flat_from : (f : A → List B) (y : B) (xs : List A) → Among y (flat_map f xs) → (x : A) × Among x xs
      × Among y (f x)
  flat_from f y [] h = absurd h
  flat_from f y (x ∷ xs) h = elim (among_cases y (f x) (flat_map f xs) h) [
    | inl k ↦ (x, inl refl, k)
    | inr k ↦ let i =
        flat_from f y xs k in (i.0, inr i.1, i.2)
  ]

-- ---- paths

begins_antisym : (a b : Path) → begins a b ≡ true → begins b a ≡ true → a ≡ b
begins_antisym [] [] h k = refl
begins_antisym [] (m ∷ ms) h k = absurd (false≢true k)
begins_antisym (n ∷ ns) [] h k = absurd (false≢true h)
begins_antisym (n ∷ ns) (m ∷ ms) h k =
    let p = and_parts (bytes_eq n m) (begins ns ms) h in
    let q = and_parts (bytes_eq m n) (begins ms ns) k in
    let first : n ≡ m = (bytes_decides n m).0 p.0 in
    let rest : ns ≡ ms = begins_antisym ns ms p.1 q.1 in
    cc

-- the levels of a path that is behind one of its levels are inside that
above_same : (n : Name) (a b : Path) → is_above a b ≡ true → is_above (n ∷ a) (n ∷ b) ≡ true
above_same n a b h = rw (name_itself n) h

level_named : (p path : Path) → Among p (levels path) → begins p [] ≡ false
level_named p [] h = absurd h
level_named p (n ∷ ns) (inl e) = subst (λ q. begins q [] ≡ false) (sym e) refl
level_named p (n ∷ ns) (inr h) = let i = among_map (λ q. n ∷ q) p (levels ns) h in subst (λ q. begins q [] ≡ false)
    (sym i.2) refl

above_first : (n : Name) (q : Path) → begins q [] ≡ false → is_above (n ∷ []) (n ∷ q) ≡ true
above_first n q h = rw (name_itself n, h) refl

pub record Split (constant path : Path) : Type 0 where
  pub front : List Path
  pub back : List Path
  pub is : levels path ≡ front ++ constant ∷ back
  pub inside : (p : Path) → Among p back → is_above constant p ≡ true

split_more : (n : Name) (x : Name) (xs ms : Path) → Split (x ∷ xs) ms → Split (n ∷ x ∷ xs) (n ∷ ms)
split_more n x xs ms s = record {
  front = (n ∷ []) ∷ map (λ q. n ∷ q) s.front;
  back = map (λ q. n ∷ q) s.back;
  is = ap (λ ls. (n ∷ []) ∷ ls) (ap (map (λ q. n ∷ q)) s.is ∙ map-append (λ q. n ∷ q) s.front ((x ∷ xs) ∷ s.back));
  inside = λ p h. let i = among_map (λ q. n ∷ q) p s.back h in subst (λ q. is_above (n ∷ x ∷ xs) q ≡ true) (sym i.2)
      (above_same n (x ∷ xs) i.0 (s.inside i.0 i.1));
}

split_first : (n : Name) (ms : Path) → Split (n ∷ []) (n ∷ ms)
split_first n ms = record {
  front = [];
  back = map (λ q. n ∷ q) (levels ms);
  is = refl;
  inside = λ p h. let i = among_map (λ q. n ∷ q) p (levels ms) h in subst (λ q. is_above (n ∷ []) q ≡ true) (sym i.2)
      (above_first n i.0 (level_named i.0 ms i.1));
}

-- a path's levels up to one that begins it, and those inside that
pub split : (n : Name) (ns path : Path) → begins (n ∷ ns) path ≡ true → Split (n ∷ ns) path
split n ns [] h = absurd (false≢true h)
split n [] (m ∷ ms) h = let same : n ≡ m = (bytes_decides n m).0 (and_parts (bytes_eq n m) (begins [] ms) h).0 in
    subst (λ k. Split (n ∷ []) (k ∷ ms)) same (split_first n ms)
split n (x ∷ xs) (m ∷ ms) h =
    let p = and_parts (bytes_eq n m) (begins (x ∷ xs) ms) h in
    let same : n ≡ m = (bytes_decides n m).0 p.0 in
    subst (λ k. Split (n ∷ x ∷ xs) (k ∷ ms)) same (split_more n x xs ms (split x xs ms p.1))

-- ---- what a file without fault defines

once_from : (a : Path) (ps : List Path) → Among a (once ps) → Among a ps
once_from a [] h = absurd h
once_from a (p ∷ ps) (inl e) = inl e
once_from a (p ∷ ps) (inr h) = inr (once_from a ps (kept (λ q. not (same_path p q)) a (once ps) h).0)

entry_path : (e : Entry) (c : Path) (b : Bool) → is_definition e ≡ b → Among c (cond b (e.constant ∷ []) [])
    → (is_definition e ≡ true) × (c ≡ e.constant)
entry_path e c true q (inl h) = (q, h)
entry_path e c true q (inr h) = absurd h
entry_path e c false q h = absurd h

-- an entry that defines the constant
pub defining : (file : UsedFile) (c : Path) → Among c (defined_by file) → (e : Entry) × Among e (entries file)
    × (is_definition e ≡ true) × (c ≡ e.constant)
defining file c h =
    let f = flat_from (λ e. cond (is_definition e) (e.constant ∷ []) []) c (entries file) (once_from c _ h) in
    let p = entry_path f.0 c (is_definition f.0) refl f.2 in
    (f.0, f.1, p.0, p.1)

not_true : (b : Bool) → not b ≡ false → b ≡ true
not_true true h = refl
not_true false h = absurd (false≢true (sym h))

not_false : (b : Bool) → not b ≡ true → b ≡ false
not_false true h = absurd (false≢true h)
not_false false h = refl

or_else_true : (x y : Bool) → (x || y) ≡ true → y ≡ false → x ≡ true
or_else_true true y h k = refl
or_else_true false y h k = absurd (false≢true (sym k ∙ h))

and_false : (x y : Bool) → x ≡ false → (x && y) ≡ false
and_false x y h = ap (λ b. b && y) h

-- the facts of a file without fault
pub record Sound (files : List UsedFile) (file : UsedFile) : Type 0 where
  pub inside : list_any (is_outside file.constant) (entries file) ≡ false
  pub alone : inner_site files file ≡ None

less_left : (a b : Option RubyError) → or_fault a b ≡ None → (a ≡ None) × (b ≡ None)
less_left None b h = (refl, h)
less_left (Some error) b h = absurd cc

no_more : (file : UsedFile) (b : Bool) → more_than file b ≡ None → b ≡ false
no_more file true h = absurd cc
no_more file false h = refl

no_own : (file : UsedFile) (o : Option Path) → own_file file o ≡ None → o ≡ None
no_own file None h = refl
no_own file (Some p) h = absurd cc

-- a file without fault defines nothing outside its constant and nothing that has a site of its own
pub sound : (files : List UsedFile) (file : UsedFile) → file_fault files file ≡ None → Sound files file
sound files file h =
    let a = less_left (unread file file.reading) _ h in
    let b = less_left (undefined_by file (kind_in (entries file) file.constant)) _ a.1 in
    let c = less_left (more_than file (list_any (is_outside file.constant) (entries file))) _ b.1 in
    let d = less_left (no_module file _) _ c.1 in
    let e = less_left (own_file file (inner_site files file)) _ d.1 in
    record { inside = no_more file _ c.0; alone = no_own file _ e.0 }

-- the tasks of a definition have no task of a file
pub no_file_task : (path : List ℕ) (p : Path) (o : Option Kind) → Among (task.File path) (kind_tasks p o) → ⊥
no_file_task x p None h = h
no_file_task x p (Some a_module) (inl e) = cc
no_file_task x p (Some a_module) (inr (inl e)) = cc
no_file_task x p (Some a_module) (inr (inr h)) = h
no_file_task x p (Some a_class) (inl e) = cc
no_file_task x p (Some a_class) (inr (inl e)) = cc
no_file_task x p (Some a_class) (inr (inr h)) = h
no_file_task x p (Some (a_value value scopes)) (inl e) = cc
no_file_task x p (Some (a_value value scopes)) (inr h) = h

-- the tasks of a definition have no request
pub no_request_task : (request : Request) (p : Path) (o : Option Kind) → Among (task.Request request) (kind_tasks p o)
    → ⊥
no_request_task x p None h = h
no_request_task x p (Some a_module) (inl e) = cc
no_request_task x p (Some a_module) (inr (inl e)) = cc
no_request_task x p (Some a_module) (inr (inr h)) = h
no_request_task x p (Some a_class) (inl e) = cc
no_request_task x p (Some a_class) (inr (inl e)) = cc
no_request_task x p (Some a_class) (inr (inr h)) = h
no_request_task x p (Some (a_value value scopes)) (inl e) = cc
no_request_task x p (Some (a_value value scopes)) (inr h) = h

module _ (files : List UsedFile) (one : OneFile files) where
  -- a constant that the file defines, and that isn't above its own, is inside it
  begins_own : (file : UsedFile) (e : Entry) → Sound files file → Among e (entries file)
      → is_above e.constant file.constant ≡ false → begins file.constant e.constant ≡ true
  begins_own file e s m h =
      let o = any_false (is_outside file.constant) e (entries file) s.inside m in
      or_else_true (begins file.constant e.constant) (opens_around file.constant e) (not_true _ o)
      (and_false (is_above e.constant file.constant) _ h)

  -- what is inside has no site
  bare_level : (file : UsedFile) (e : Entry) (p : Path) → Sound files file → Among e (entries file) → is_definition e
      ≡ true → Among p (levels e.constant) → is_above file.constant p ≡ true → has_site files p ≡ false
  bare_level file e p s m d l a =
      let inner : Among p (levels_inside file.constant e) = subst
      (λ b. Among p (cond b (filter (is_above file.constant) (levels e.constant)) [])) (sym d)
      (among_filter (is_above file.constant) p (levels e.constant) l a) in
      none_found (has_site files) p (flat_map (levels_inside file.constant) (entries file)) s.alone
      (among_flat (levels_inside file.constant) e p (entries file) m inner)

  -- a path that has a file has a site
  site_of_file : (p : Path) (g : UsedFile) → file_of files p ≡ Some g → has_site files p ≡ true
  site_of_file [] g h = absurd (one.named g (file_found files [] g h).0 (file_found files [] g h).1)
  site_of_file (n ∷ ns) g h =
      let f = file_found files (n ∷ ns) g h in
      any_true (λ f. begins (n ∷ ns) f.constant) g files f.0 (subst (λ q. begins (n ∷ ns) q ≡ true) (sym f.1)
      (begins_itself (n ∷ ns)))

  no_file_at : (p : Path) (o : Option UsedFile) → file_of files p ≡ o → has_site files p ≡ false → o ≡ None
  no_file_at p None e h = refl
  no_file_at p (Some g) e h = absurd (false≢true (sym h ∙ site_of_file p g e))

  no_file : (p : Path) → has_site files p ≡ false → file_of files p ≡ None
  no_file p h = no_file_at p (file_of files p) refl h

  -- the file of its own constant
  its_file_at : (file : UsedFile) (o : Option UsedFile) → Among file files → file_of files file.constant ≡ o
      → o ≡ Some file
  its_file_at file None m e =
      absurd (false≢true (sym (none_found (λ g. same_path g.constant file.constant) file files e m)
      ∙ path_itself file.constant))
  its_file_at file (Some g) m e = let f = file_found files file.constant g e in ap Some (one.constants g file f.0 m f.1)

  -- where no two files spell one constant, the file of a file's constant is that file
  pub its_file : (file : UsedFile) → Among file files → file_of files file.constant ≡ Some file
  its_file file m = its_file_at file (file_of files file.constant) m refl

  none_near : (ps : List Path) → ((p : Path) → Among p ps → file_of files p ≡ None) → nearest files ps ≡ None
  none_near [] h = refl
  none_near (p ∷ ps) h = rw (none_near ps (λ q k. h q (inr k))) (h p (inl refl))

  near_front : (front ps : List Path) (g : UsedFile) → nearest files ps ≡ Some g → nearest files (front ++ ps) ≡ Some g
  near_front [] ps g h = h
  near_front (p ∷ front) ps g h = rw (near_front front ps g h) refl

  nearest_is : (file : UsedFile) (c : Path) → Among file files → (s : Split file.constant c)
      → ((p : Path) → Among p s.back → has_site files p ≡ false) → nearest files (levels c) ≡ Some file
  nearest_is file c m s h =
      let behind : nearest files (file.constant ∷ s.back) ≡ Some file =
      rw (none_near s.back (λ p k. no_file p (h p k))) (its_file file m) in
      subst (λ ls. nearest files ls ≡ Some file) (sym s.is) (near_front s.front (file.constant ∷ s.back) file behind)

  split_of : (constant c : Path) → constant ≢ [] → begins constant c ≡ true → Split constant c
  split_of [] c n h = absurd (n refl)
  split_of (x ∷ xs) c n h = split x xs c h

  last_level : (n : Name) (ns : Path) → Among (n ∷ ns) (levels (n ∷ ns))
  last_level n ns = let s = split n ns (n ∷ ns) (begins_itself (n ∷ ns)) in subst (λ ls. Among (n ∷ ns) ls) (sym s.is)
      (among_right (n ∷ ns) s.front ((n ∷ ns) ∷ s.back) (inl refl))

  strictly : (a b : Path) → begins a b ≡ true → same_path a b ≡ false → is_above a b ≡ true
  strictly a b h k = strictly_at (begins b a) refl where
    strictly_at : (x : Bool) → begins b a ≡ x → is_above a b ≡ true
    strictly_at true e = absurd (false≢true (sym k ∙ (path_decides a b).1 (begins_antisym a b h e)))
    strictly_at false e = rw (h, e) refl

  level_of : (c constant : Path) → is_above constant c ≡ true → Among c (levels c)
  level_of [] [] h = absurd (false≢true h)
  level_of [] (n ∷ ns) h = absurd (false≢true h)
  level_of (n ∷ ns) constant h = last_level n ns

  -- Where a file without fault defines a constant that isn't above its own, it owns it.
  owns_at : (file : UsedFile) (e : Entry) (b : Bool) → Among file files → file_fault files file ≡ None
      → Among e (entries file) → is_definition e ≡ true → begins file.constant e.constant ≡ true
      → same_path file.constant e.constant ≡ b
      → place_of files e.constant ≡ owned_by file (content_in file e.constant)
  owns_at file e true m f k d h q =
      let same : file.constant ≡ e.constant = (path_decides file.constant e.constant).0 q in
      subst (λ c. place_of files c ≡ owned_by file (content_in file c)) same (rw (its_file file m, f) refl)
  owns_at file e false m f k d h q =
      let s = sound files file f in
      let above = strictly file.constant e.constant h q in
      let bare : has_site files e.constant ≡ false = bare_level file e e.constant s k d
      (level_of e.constant file.constant above) above in
      let parts = split_of file.constant e.constant (one.named file m) h in
      let near = nearest_is file e.constant m parts (λ p l. bare_level file e p s k d
      (subst (Among p) (sym parts.is) (among_right p parts.front (file.constant ∷ parts.back) (inr l)))
      (parts.inside p l)) in
      rw (no_file e.constant bare, bare, near, f) refl

  -- ---- one owner

  -- a task of a definition is of its path, which is defined
  kind_const : (p c : Path) (o : Option Kind) → Among (task.Const c) (kind_tasks p o) → (k : Kind) × (o ≡ Some k)
      × (c ≡ p)
  kind_const p c None h = absurd h
  kind_const p c (Some a_module) (inl e) = (a_module, refl, cc)
  kind_const p c (Some a_module) (inr (inl e)) = absurd cc
  kind_const p c (Some a_module) (inr (inr h)) = absurd h
  kind_const p c (Some a_class) (inl e) = (a_class, refl, cc)
  kind_const p c (Some a_class) (inr (inl e)) = absurd cc
  kind_const p c (Some a_class) (inr (inr h)) = absurd h
  kind_const p c (Some (a_value x scopes)) (inl e) = (a_value x scopes, refl, cc)
  kind_const p c (Some (a_value x scopes)) (inr h) = absurd h

  kind_ancestors : (p c : Path) (o : Option Kind) → Among (task.Ancestors c) (kind_tasks p o)
      → Among (task.Const c) (kind_tasks p o)
  kind_ancestors p c None h = absurd h
  kind_ancestors p c (Some a_module) (inl e) = absurd cc
  kind_ancestors p c (Some a_module) (inr (inl e)) = let same : c ≡ p = cc in inl (ap task.Const same)
  kind_ancestors p c (Some a_module) (inr (inr h)) = absurd h
  kind_ancestors p c (Some a_class) (inl e) = absurd cc
  kind_ancestors p c (Some a_class) (inr (inl e)) = let same : c ≡ p = cc in inl (ap task.Const same)
  kind_ancestors p c (Some a_class) (inr (inr h)) = absurd h
  kind_ancestors p c (Some (a_value x scopes)) (inl e) = absurd cc
  kind_ancestors p c (Some (a_value x scopes)) (inr h) = absurd h

  inner_ancestors : (file : UsedFile) (c : Path) → Among (task.Ancestors c) (inner_tasks file)
      → Among (task.Const c) (inner_tasks file)
  inner_ancestors file c h =
      let f = flat_from (λ p. kind_tasks p (kind_in (entries file) p)) (task.Ancestors c) _ h in
      among_flat (λ p. kind_tasks p (kind_in (entries file) p)) f.0 (task.Const c) _ f.1 (kind_ancestors f.0 c _ f.2)

  content_there : (file : UsedFile) (p : Path) (k : Kind) → (content : Content)
      × (content_by file p (Some k) ≡ Some content)
  content_there file p a_module = (_, refl)
  content_there file p a_class = (_, refl)
  content_there file p (a_value x scopes) = (_, refl)

  -- the file is what stands at the path
  abbrev pub Owns : UsedFile → Path → Type 0
  Owns file c = (content : Content) × (place_of files c ≡ Owned file.path content)

  inner_owned : (file : UsedFile) (c : Path) → Among file files → file_fault files file ≡ None
      → Among (task.Const c) (inner_tasks file) → Owns file c
  inner_owned file c m f h =
      let i = flat_from (λ p. kind_tasks p (kind_in (entries file) p)) (task.Const c) _ h in
      let g = kept (λ p. not (is_above p file.constant)) i.0 (defined_by file) i.1 in
      let k = kind_const i.0 c (kind_in (entries file) i.0) i.2 in
      let d = defining file i.0 g.0 in
      let not_over : is_above d.0.constant file.constant ≡ false = subst (λ q. is_above q file.constant ≡ false) d.3
      (not_false _ g.1) in
      let begun = begins_own file d.0 (sound files file f) d.1 not_over in
      let place = owns_at file d.0 (same_path file.constant d.0.constant) m f d.1 d.2 begun refl in
      let content = content_there file i.0 k.0 in
      let at : place_of files i.0 ≡ owned_by file (content_in file i.0) =
      subst (λ q. place_of files q ≡ owned_by file (content_in file q)) (sym d.3) place in
      let there : content_in file i.0 ≡ Some content.0 = ap (content_by file i.0) k.1 ∙ content.1 in
      (content.0, subst (λ q. place_of files q ≡ Owned file.path content.0) (sym k.2) (at ∙ ap (owned_by file) there))

  own_faulty : (file : UsedFile) (error : RubyError) → Among file files → file_fault files file ≡ Some error
      → Owns file file.constant
  own_faulty file error m f = (Faulty error, rw (its_file file m, f) refl)

  -- a file owns each constant that it has as a task
  pub const_at : (file : UsedFile) (o : Option RubyError) (c : Path) → Among file files → file_fault files file ≡ o
      → Among (task.Const c) (tasks_by file o) → Owns file c
  const_at file (Some error) c m f (inl e) = absurd cc
  const_at file (Some error) c m f (inr (inl e)) = let same : file.constant ≡ c = cc in
      subst (Owns file) same (own_faulty file error m f)
  const_at file (Some error) c m f (inr (inr (inl e))) = absurd cc
  const_at file (Some error) c m f (inr (inr (inr h))) = absurd h
  const_at file None c m f (inl e) = absurd cc
  const_at file None c m f (inr h) = inner_owned file c m f h

  ancestors_at : (file : UsedFile) (o : Option RubyError) (c : Path) → Among file files → file_fault files file ≡ o
      → Among (task.Ancestors c) (tasks_by file o) → Owns file c
  ancestors_at file (Some error) c m f (inl e) = absurd cc
  ancestors_at file (Some error) c m f (inr (inl e)) = absurd cc
  ancestors_at file (Some error) c m f (inr (inr (inl e))) = let same : file.constant ≡ c = cc in
      subst (Owns file) same (own_faulty file error m f)
  ancestors_at file (Some error) c m f (inr (inr (inr h))) = absurd h
  ancestors_at file None c m f (inl e) = absurd cc
  ancestors_at file None c m f (inr h) = inner_owned file c m f (inner_ancestors file c h)

  same_owner : (f g : UsedFile) (c : Path) → Among f files → Among g files → Owns f c → Owns g c → f ≡ g
  same_owner f g c m n a b = let same : f.path ≡ g.path = let e = sym a.1 ∙ b.1 in cc in one.paths f g m n same

  file_path : (file : UsedFile) (o : Option RubyError) (path : List ℕ) → Among (task.File path) (tasks_by file o)
      → path ≡ file.path
  file_path file (Some error) path (inl e) = cc
  file_path file (Some error) path (inr (inl e)) = absurd cc
  file_path file (Some error) path (inr (inr (inl e))) = absurd cc
  file_path file (Some error) path (inr (inr (inr h))) = absurd h
  file_path file None path (inl e) = cc
  file_path file None path (inr h) = absurd (inner_file _ h) where
    inner_file : (ps : List Path) → Among (task.File path) (flat_map (λ p. kind_tasks p (kind_in (entries file) p)) ps)
        → ⊥
    inner_file ps h = let f = flat_from (λ p. kind_tasks p (kind_in (entries file) p)) (task.File path) ps h in
        no_file_task path f.0 (kind_in (entries file) f.0) f.2

  -- No task is of two files.
  pub one_owner : (f g : UsedFile) (t : Task) → Among f files → Among g files → Among t (file_tasks files f)
      → Among t (file_tasks files g) → f ≡ g
  one_owner f g (task.File path) m n h k = one.paths f g m n (sym (file_path f (file_fault files f) path h)
      ∙ file_path g (file_fault files g) path k)
  one_owner f g (task.Const c) m n h k = same_owner f g c m n (const_at f (file_fault files f) c m refl h)
      (const_at g (file_fault files g) c n refl k)
  one_owner f g (task.Ancestors c) m n h k = same_owner f g c m n (ancestors_at f (file_fault files f) c m refl h)
      (ancestors_at g (file_fault files g) c n refl k)
  one_owner f g (task.Request request) m n h k = absurd (no_request f (file_fault files f) h) where
    no_request : (file : UsedFile) (o : Option RubyError) → Among (task.Request request) (tasks_by file o) → ⊥
    no_request file (Some error) (inl e) = cc
    no_request file (Some error) (inr (inl e)) = cc
    no_request file (Some error) (inr (inr (inl e))) = cc
    no_request file (Some error) (inr (inr (inr h))) = h
    no_request file None (inl e) = cc
    no_request file None (inr h) = let i = flat_from (λ p. kind_tasks p (kind_in (entries file) p))
        (task.Request request) _ h in no_request_task request i.0 (kind_in (entries file) i.0) i.2
