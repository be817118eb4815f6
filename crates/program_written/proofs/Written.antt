-- The entries of a tree that a text has: their scopes are opened, what they do is told, and their names have a segment.
use Rattle.std.proofs.Common.{◌≡◌, ◌⊎◌, true, false, List, [], ◌∷◌, ◌++◌, map, Some, None, inl, inr, refl}
use Rattle.std.proofs.Common.{sym, subst}
use Rattle.ruby_types.specs.declared.tree.Def.TheVariants as def
use Rattle.ruby_grammar.specs.Marks.{assigns, opens_module, opens_class, gives_parent}
use Rattle.ruby_print_pieces.specs.Names.{IsPath}
use Rattle.ruby_print_pieces.specs.FormedFiles as formed
use Rattle.ruby_print_pieces.specs.FormedFiles.{Deed, deed, Form, Held, definition, several_definitions, FormedDef}
use Rattle.program_places.specs.Paths.{Path}
use Rattle.program_files.specs.Members.{Among}
use Rattle.program_files.specs.Entries.{Entry, What, Opens, Assigns, Defines, Includes, Readers, Walk, entry}
use Rattle.program_files.specs.Entries.{all_entries, opened, entries_of}
use Rattle.program_files.proofs.Lists.{among_left, among_right, among_cases}
use Rattle.program_files.proofs.Entries.{of-Module, of-Class, of-Assign, of-Method, of-Include, of-Readers}
use Rattle.program_values.specs.Standing.{IsNamed}

-- the entry opens a module or class
abbrev pub IsOpening : What → Type 0
IsOpening (Opens is_class parent) = Unit {0}
IsOpening (Assigns value) = ⊥
IsOpening (Defines single name params body) = ⊥
IsOpening (Includes constant) = ⊥
IsOpening (Readers names) = ⊥

-- what is written is among what is done to this path
abbrev pub IsTold : List Deed → Path → What → Type 0
IsTold ds path (Opens true parent) = Among (deed path opens_class) ds
IsTold ds path (Opens false parent) = Among (deed path opens_module) ds
IsTold ds path (Assigns value) = Among (deed path assigns) ds
IsTold ds path (Defines single name params body) = Unit {0}
IsTold ds path (Includes constant) = Unit {0}
IsTold ds path (Readers names) = Unit {0}

-- the name of a parent, or of what is included, has a segment
abbrev pub HasNames : What → Type 0
HasNames (Opens is_class None) = Unit {0}
HasNames (Opens is_class (Some parent)) = IsNamed parent.path
HasNames (Assigns value) = Unit {0}
HasNames (Defines single name params body) = Unit {0}
HasNames (Includes constant) = IsNamed constant.path
HasNames (Readers names) = Unit {0}

-- an entry among these opens the innermost of the scopes
pub record IsOpened (es : List Entry) (scopes : List Path) : Type 0 where
  pub opening : Entry
  pub among : Among opening es
  pub opens : IsOpening opening.what
  pub named : IsNamed opening.constant
  pub outer : List Path
  pub is : scopes ≡ opening.constant ∷ outer

-- an entry among those of definitions in these scopes, which do this
pub record IsFormed (es : List Entry) (scopes : List Path) (ds : List Deed) (e : Entry) : Type 0 where
  pub scoped : (e.scopes ≡ scopes) ⊎ IsOpened es e.scopes
  pub told : IsTold ds e.constant e.what
  pub named : HasNames e.what

path_is_named : (names : Path) → IsPath names → IsNamed names
path_is_named [] h = absurd h
path_is_named (n ∷ ns) h = tt

joined_is_named : (around names : Path) → IsPath names → IsNamed (around ++ names)
joined_is_named [] names h = path_is_named names h
joined_is_named (n ∷ ns) names h = tt

-- ---- more entries and more that is done

opened_more : (es fs : List Entry) (scopes : List Path) → ((x : Entry) → Among x es → Among x fs) →
    IsOpened es scopes → IsOpened fs scopes
opened_more es fs scopes more o = record {
  opening = o.opening;
  among = more o.opening o.among;
  opens = o.opens;
  named = o.named;
  outer = o.outer;
  is = o.is;
}

told_more : (ds cs : List Deed) (path : Path) (what : What) → ((d : Deed) → Among d ds → Among d cs) →
    IsTold ds path what → IsTold cs path what
told_more ds cs path (Opens true parent) more h = more (deed path opens_class) h
told_more ds cs path (Opens false parent) more h = more (deed path opens_module) h
told_more ds cs path (Assigns value) more h = more (deed path assigns) h
told_more ds cs path (Defines single name params body) more h = tt
told_more ds cs path (Includes constant) more h = tt
told_more ds cs path (Readers names) more h = tt

formed_more : (es fs : List Entry) (scopes : List Path) (ds cs : List Deed) (e : Entry) →
    ((x : Entry) → Among x es → Among x fs) → ((d : Deed) → Among d ds → Among d cs) → IsFormed es scopes ds e →
    IsFormed fs scopes cs e
formed_more es fs scopes ds cs e more_es more_ds f = record {
  scoped = elim f.scoped [ inl same ↦ inl same | inr o ↦ inr (opened_more es fs e.scopes more_es o) ];
  told = told_more ds cs e.constant e.what more_ds f.told;
  named = f.named;
}

-- the entries of a definition, or of several
abbrev walk_of : (f : Form) → Held f → Walk
walk_of definition d = entries_of d
walk_of several_definitions ds = all_entries (map entries_of ds)

-- each entry of a walk is formed
abbrev AllFormed : Walk → Path → List Deed → Type 0
AllFormed walk path ds = (scopes : List Path) (e : Entry) → Among e (walk path scopes) →
    IsFormed (walk path scopes) scopes ds e

-- ---- bodies

inner_scoped : (head : Entry) (es : List Entry) (scopes own : List Path) → IsOpening head.what →
    IsNamed head.constant → (own ≡ head.constant ∷ scopes) ⊎ IsOpened es own →
    (own ≡ scopes) ⊎ IsOpened (head ∷ es) own
inner_scoped head es scopes own opens named (inl same) = inr (record {
  opening = head;
  among = inl refl;
  opens = opens;
  named = named;
  outer = scopes;
  is = same;
})
inner_scoped head es scopes own opens named (inr o) = inr (opened_more es (head ∷ es) own (λ x m. inr m) o)

-- the entry of an opening, and those of its body
body_formed : (path : Path) (scopes : List Path) (what : What) (body : List Walk) (ds cs : List Deed) →
    IsOpening what → IsNamed path → IsTold cs path what → HasNames what → ((d : Deed) → Among d ds → Among d cs) →
    AllFormed (all_entries body) path ds → (e : Entry) → Among e (opened path scopes what body) →
    IsFormed (opened path scopes what body) scopes cs e
body_formed path scopes what body ds cs opens named told names more inner e (inl same) =
    subst (IsFormed (opened path scopes what body) scopes cs) (sym same)
    (record { scoped = inl refl; told = told; named = names })
body_formed path scopes what body ds cs opens named told names more inner e (inr m) =
    let f = inner (path ∷ scopes) e m in record {
      scoped = inner_scoped (entry path scopes what) (all_entries body path (path ∷ scopes)) scopes e.scopes opens named
          f.scoped;
      told = told_more ds cs e.constant e.what more f.told;
      named = f.named;
    }

-- an entry that stands alone
alone_formed : (path : Path) (scopes : List Path) (what : What) (ds : List Deed) → IsTold ds path what →
    HasNames what → (e : Entry) → Among e (entry path scopes what ∷ []) →
    IsFormed (entry path scopes what ∷ []) scopes ds e
alone_formed path scopes what ds told names e (inl same) =
    subst (IsFormed (entry path scopes what ∷ []) scopes ds) (sym same)
    (record { scoped = inl refl; told = told; named = names })
alone_formed path scopes what ds told names e (inr m) = absurd m

-- a walk that is another
as_walk : (v w : Walk) (path : Path) (ds : List Deed) → v ≡ w → AllFormed w path ds → AllFormed v path ds
as_walk v w path ds same h = subst (λ x. AllFormed x path ds) (sym same) h

joined_formed : (v : Walk) (ws : List Walk) (path : Path) (ds cs : List Deed) → AllFormed v path ds →
    AllFormed (all_entries ws) path cs → AllFormed (all_entries (v ∷ ws)) path (ds ++ cs)
joined_formed v ws path ds cs h k scopes e m =
    elim (among_cases e (v path scopes) (all_entries ws path scopes) m) [
      | inl first ↦ formed_more (v path scopes) (v path scopes ++ all_entries ws path scopes) scopes ds (ds ++ cs) e
          (λ x n. among_left x (v path scopes) (all_entries ws path scopes) n)
          (λ d n. among_left d ds cs n) (h scopes e first)
      | inr later ↦ formed_more (all_entries ws path scopes) (v path scopes ++ all_entries ws path scopes) scopes cs
          (ds ++ cs) e
          (λ x n. among_right x (v path scopes) (all_entries ws path scopes) n)
          (λ d n. among_right d ds cs n) (k scopes e later)
    ]

-- each entry of definitions that a text has is formed
pub formed_entries : {path : Path} {f : Form} {x : Held f} {ds : List Deed} → FormedDef path f x ds →
    AllFormed (walk_of f x) path ds
formed_entries (formed.is_module {path} {names} {body} {ds} p h) =
    as_walk (entries_of (def.Module names body)) _ path _ (of-Module names body) (λ scopes.
    body_formed (path ++ names) scopes (Opens false None) (map entries_of body) ds
    (deed (path ++ names) opens_module ∷ ds) tt (joined_is_named path names p.0) (inl refl) tt (λ d m. inr m)
    (formed_entries h))
formed_entries (formed.is_class {path} {names} {body} {ds} p h) =
    as_walk (entries_of (def.Class names None body)) _ path _ (of-Class names None body) (λ scopes.
    body_formed (path ++ names) scopes (Opens true None) (map entries_of body) ds
    (deed (path ++ names) opens_class ∷ ds) tt (joined_is_named path names p.0) (inl refl) tt (λ d m. inr m)
    (formed_entries h))
formed_entries (formed.is_subclass {path} {names} {c} {body} {ds} p i h) =
    as_walk (entries_of (def.Class names (Some c) body)) _ path _ (of-Class names (Some c) body) (λ scopes.
    body_formed (path ++ names) scopes (Opens true (Some c)) (map entries_of body) ds
    (deed (path ++ names) opens_class ∷ deed (path ++ names) gives_parent ∷ ds) tt
    (joined_is_named path names p.0) (inl refl) (path_is_named c.path i) (λ d m. inr (inr m)) (formed_entries h))
formed_entries (formed.is_assignment {path} {n} {x} name h) =
    as_walk (entries_of (def.Assign n x)) _ path _ (of-Assign n x) (λ scopes.
    alone_formed (path ++ n ∷ []) scopes (Assigns x) (deed (path ++ n ∷ []) assigns ∷ []) (inl refl) tt)
formed_entries (formed.is_method {path} {single} {n} {params} {body} top name ps h) =
    as_walk (entries_of (def.Method single n params body)) _ path _ (of-Method single n params body) (λ scopes.
    alone_formed path scopes (Defines single n params body) _ tt tt)
formed_entries (formed.is_include {path} {c} top i) =
    as_walk (entries_of (def.Include c)) _ path _ (of-Include c) (λ scopes.
    alone_formed path scopes (Includes c) [] tt (path_is_named c.path i))
formed_entries (formed.is_readers {path} {names} {ds} top h) =
    as_walk (entries_of (def.Readers names)) _ path _ (of-Readers names) (λ scopes.
    alone_formed path scopes (Readers names) ds tt tt)
formed_entries formed.no_more = λ scopes e m. absurd m
formed_entries (formed.one_more {path} {d} {body} {ds} {es} h k) =
    joined_formed (entries_of d) (map entries_of body) path ds es (formed_entries h) (formed_entries k)
