-- Names that are found by the tables of files are found by what the files define.
use Rattle.std.proofs.Common.{◌≡◌, ℕ, Bool, true, false, cond, ◌==◌, List, [], ◌∷◌, ◌++◌, Option, Some, None, slice_get}
use Rattle.std.proofs.Common.{refl, sym, ap, ◌∙◌, subst}
use Rattle.std.proofs.lemmas.Bool.{false≢true, eqb-true, eq-eqb}
use Rattle.std.proofs.lemmas.Option.{none-some, same_Some}
use Rattle.ruby_types.specs.declared.request.RubyError.{RubyError}
use Rattle.ruby_types.specs.declared.request.Task.TheVariants as task
use Rattle.program_places.specs.Paths.{Name, Path}
use Rattle.program_places.specs.Places.{Place, Missing, Implicit, Owned, Content, Faulty, Assigned, Opened}
use Rattle.program_files.specs.Files.{UsedFile}
use Rattle.program_files.specs.Contents.{place_of}
use Rattle.program_files.specs.Owners.{OneFile}
use Rattle.program_resolve.specs.Resolve.{Found, AtPath, InFaulty, Nowhere}
use Rattle.program_resolve.specs.Resolve.{is_there, or_found, at_path, by_scope, inside}
use Rattle.program_resolve.specs.Resolve.{bare}
use Rattle.program_standing.specs.declared.standing.Standing.{Standing}
use Rattle.program_standing.specs.declared.standing.Standing.TheVariants as standing
use Rattle.program_standing.specs.declared.resolved.Resolved.{Resolved}
use Rattle.program_standing.specs.declared.resolved.Resolved.TheVariants as found
use Rattle.program_standing.specs.Tables.{Tables, standing_of, is_faulty}
use Rattle.program_standing.specs.Search as table
use Rattle.program_standing.specs.Search.{owner_of, innermost, own_or_other, found_at, scope_fault, in_scope, search}
use Rattle.program_standing.specs.Search.{or_missing, resolved}
use Rattle.program_outcomes.specs.Outcomes.{listed}
use Rattle.program_tables.specs.Tables.{tables_of}
use Rattle.program_tables.specs.Resolved.{IsNumberOf, OwnsPath, OwnsInnermost, IsResolved, OneNumber}
use Rattle.program_tables.specs.Said.{is_fault}
use Rattle.program_tables.proofs.StandLaws.{OwnedBy, StandsAs, stands_told}

module _ (us : List (Option UsedFile)) (one : OneFile (listed us)) where
  abbrev t : Tables
  t = tables_of us

  abbrev at : Path → Place
  at = place_of (listed us)

  -- what tables find is what files define
  abbrev Tells : Option ℕ → Option Resolved → Found → Type 0
  Tells from None r = r ≡ Nowhere
  Tells from (Some (found.Own (task.Const path))) r =
      (r ≡ AtPath path) × ((n : ℕ) × (from ≡ Some n) × OwnedBy us one n path)
  Tells from (Some (found.Other n (task.Const path))) r =
      (r ≡ AtPath path) × OwnedBy us one n path × (from ≡ Some n → ⊥)
  Tells from (Some (found.Namespace path)) r = (r ≡ AtPath path) × (at path ≡ Implicit)
  Tells from (Some (found.Fault n)) r =
      (file : List ℕ) × (error : RubyError) × (r ≡ InFaulty file error) × IsNumberOf us n file
  Tells from (Some _) r = ⊥

  there : (path : Path) (p : Place) → at path ≡ p → at_path at path ≡ cond (is_there p) (AtPath path) Nowhere
  there path p e = ap (λ q. cond (is_there q) (AtPath path) Nowhere) e

  owned_told : (from : Option ℕ) (n : ℕ) (path : Path) (o : OwnedBy us one n path) →
      Tells from (Some (own_or_other from n path)) (at_path at path)
  owned_told None n path o = (there path _ o.is, o, λ e. none-some n e)
  owned_told (Some m) n path o = same (m == n) refl where
    same : (b : Bool) → (m == n) ≡ b →
        Tells (Some m) (Some (cond b (found.Own (task.Const path)) (found.Other n (task.Const path)))) (at_path at path)
    same true q = (there path _ o.is, (n, ap (λ k. Some k) (eqb-true m n q), o))
    same false q =
        (there path _ o.is, o, λ e. false≢true (sym q ∙ eq-eqb m n (same_Some m n e)))

  found_told : (from : Option ℕ) (path : Path) (s : Standing) → StandsAs us one s path →
      Tells from (found_at from path s) (at_path at path)
  found_told from path standing.Missing h = there path Missing h
  found_told from path standing.Implicit h = (there path Implicit h, h)
  found_told from path (standing.Owned n) h = owned_told from n path h

  at_path_told : (from : Option ℕ) (path : Path) → Tells from (table.at_path t from path) (at_path at path)
  at_path_told from path = found_told from path (standing_of t path) (stands_told us one path)

  -- ---- scopes

  faulty_told : (from : Option ℕ) (n : ℕ) (file : UsedFile) (content : Content) (b : Bool) (own : Option Resolved)
      (r : Found) → slice_get us n ≡ Some (Some file) → b ≡ is_fault content → Tells from own r →
      Tells from (table.or_found (cond b (Some (found.Fault n)) None) own) (by_scope (Owned file.path content) r)
  faulty_told from n file (Faulty error) true own r k e h = (file.path, error, refl, (file, k, refl))
  faulty_told from n file (Faulty error) false own r k e h = absurd (false≢true e)
  faulty_told from n file (Assigned value scopes) true own r k e h = absurd (false≢true (sym e))
  faulty_told from n file (Assigned value scopes) false own r k e h = h
  faulty_told from n file (Opened opening) true own r k e h = absurd (false≢true (sym e))
  faulty_told from n file (Opened opening) false own r k e h = h

  scope_told : (from : Option ℕ) (scope : Path) (s : Standing) → StandsAs us one s scope → (own : Option Resolved)
      (r : Found) → Tells from own r → Tells from (table.or_found (scope_fault t s) own) (by_scope (at scope) r)
  scope_told from scope standing.Missing h own r k = subst (λ p. Tells from own (by_scope p r)) (sym h) k
  scope_told from scope standing.Implicit h own r k = subst (λ p. Tells from own (by_scope p r)) (sym h) k
  scope_told from scope (standing.Owned n) o own r k =
      subst (λ p. Tells from (table.or_found (cond (is_faulty t n) (Some (found.Fault n)) None) own) (by_scope p r))
      (sym o.is) (faulty_told from n o.file o.content (is_faulty t n) own r o.at o.faulty k)

  in_scope_told : (from : Option ℕ) (scope : Path) (name : Name) →
      Tells from (in_scope t from scope name) (inside at scope name)
  in_scope_told from scope name =
      scope_told from scope (standing_of t scope) (stands_told us one scope)
      (table.at_path t from (scope ++ name ∷ [])) (at_path at (scope ++ name ∷ []))
      (at_path_told from (scope ++ name ∷ []))

  either_told : (from : Option ℕ) (a b : Option Resolved) (r q : Found) → Tells from a r → Tells from b q →
      Tells from (table.or_found a b) (or_found r q)
  either_told from None b r q h k = subst (λ x. Tells from b (or_found x q)) (sym h) k
  either_told from (Some (found.Own (task.Const path))) b r q h k = (ap (λ x. or_found x q) h.0, h.1)
  either_told from (Some (found.Other n (task.Const path))) b r q h k = (ap (λ x. or_found x q) h.0, h.1, h.2)
  either_told from (Some (found.Namespace path)) b r q h k = (ap (λ x. or_found x q) h.0, h.1)
  either_told from (Some (found.Fault n)) b r q h k = (h.0, h.1, ap (λ x. or_found x q) h.2, h.3)
  either_told from (Some found.Missing) b r q h k = absurd h
  either_told from (Some (found.Own (task.File file))) b r q h k = absurd h
  either_told from (Some (found.Own (task.Ancestors path))) b r q h k = absurd h
  either_told from (Some (found.Own (task.Request request))) b r q h k = absurd h
  either_told from (Some (found.Other n (task.File file))) b r q h k = absurd h
  either_told from (Some (found.Other n (task.Ancestors path))) b r q h k = absurd h
  either_told from (Some (found.Other n (task.Request request))) b r q h k = absurd h

  search_told : (from : Option ℕ) (scopes : List Path) (name : Name) →
      Tells from (search t from scopes name) (bare at scopes name)
  search_told from [] name = at_path_told from (name ∷ [])
  search_told from (scope ∷ scopes) name =
      either_told from (in_scope t from scope name) (search t from scopes name) (inside at scope name)
      (bare at scopes name) (in_scope_told from scope name) (search_told from scopes name)

  -- ---- the innermost scope

  same_file : (n : ℕ) (f g : UsedFile) → slice_get us n ≡ Some (Some f) → slice_get us n ≡ Some (Some g) → f ≡ g
  same_file n f g h k = same_Some f g (same_Some (Some f) (Some g) (sym h ∙ k))

  innermost_owns : (scopes : List Path) (n : ℕ) (file : UsedFile) → slice_get us n ≡ Some (Some file) →
      innermost t scopes ≡ Some n → OwnsInnermost us file.path scopes
  innermost_owns [] n file k e = absurd (none-some n e)
  innermost_owns (scope ∷ scopes) n file k e = by (standing_of t scope) (stands_told us one scope) e where
    by : (s : Standing) → StandsAs us one s scope → owner_of s ≡ Some n → OwnsPath us file.path scope
    by standing.Missing h q = absurd (none-some n q)
    by standing.Implicit h q = absurd (none-some n q)
    by (standing.Owned m) o q =
        let same : m ≡ n = same_Some m n q in
        let one_at : o.file ≡ file =
        same_file n o.file file (subst (λ x. slice_get us x ≡ Some (Some o.file)) same o.at) k in
        (o.content, o.is ∙ ap (λ (f : UsedFile). Owned f.path o.content) one_at)

  owner_innermost : OneNumber us → (scopes : List Path) (n : ℕ) (file : UsedFile) →
      slice_get us n ≡ Some (Some file) → OwnsInnermost us file.path scopes → innermost t scopes ≡ Some n
  owner_innermost numbers [] n file k h = absurd h
  owner_innermost numbers (scope ∷ scopes) n file k h = by (standing_of t scope) (stands_told us one scope) where
    by : (s : Standing) → StandsAs us one s scope → owner_of s ≡ Some n
    by standing.Missing g = absurd (let e = sym g ∙ h.1 in cc)
    by standing.Implicit g = absurd (let e = sym g ∙ h.1 in cc)
    by (standing.Owned m) o =
        let e = sym o.is ∙ h.1 in
        let path : o.file.path ≡ file.path = cc in
        ap (λ x. Some x) (numbers m n o.file file o.at k path)

  found_is : OneNumber us → (scopes : List Path) (name : Name) (x : Option Resolved) →
      Tells (innermost t scopes) x (bare at scopes name) → IsResolved us scopes name (or_missing x)
  found_is numbers scopes name None h = h
  found_is numbers scopes name (Some (found.Own (task.Const path))) h =
      let o = h.1.2 in
      (h.0, (o.file.path, (o.content, o.is), innermost_owns scopes h.1.0 o.file o.at h.1.1))
  found_is numbers scopes name (Some (found.Other n (task.Const path))) h =
      let o = h.1 in (
        h.0,
        (
          o.file.path,
          (o.content, o.is),
          (o.file, o.at, refl),
          λ owns. h.2 (owner_innermost numbers scopes n o.file o.at owns),
        ),
      )
  found_is numbers scopes name (Some (found.Namespace path)) h = h
  found_is numbers scopes name (Some (found.Fault n)) h = h
  found_is numbers scopes name (Some found.Missing) h = absurd h
  found_is numbers scopes name (Some (found.Own (task.File file))) h = absurd h
  found_is numbers scopes name (Some (found.Own (task.Ancestors path))) h = absurd h
  found_is numbers scopes name (Some (found.Own (task.Request request))) h = absurd h
  found_is numbers scopes name (Some (found.Other n (task.File file))) h = absurd h
  found_is numbers scopes name (Some (found.Other n (task.Ancestors path))) h = absurd h
  found_is numbers scopes name (Some (found.Other n (task.Request request))) h = absurd h

-- what a name is found as by the tables of files is what it is by what the files define
pub resolved_told : (us : List (Option UsedFile)) → OneFile (listed us) → OneNumber us →
    (scopes : List Path) (name : Name) → IsResolved us scopes name (resolved (tables_of us) scopes name)
resolved_told us one numbers scopes name =
    found_is us one numbers scopes name (search (tables_of us) (innermost (tables_of us) scopes) scopes name)
    (search_told us one (innermost (tables_of us) scopes) scopes name)
