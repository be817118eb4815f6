-- The roots in order: the namespaces of root lines, and the lines that name no default root.
use Rattle.std.proofs.Common.{◌≡◌, ◌≢◌, ℕ, suc, zero, ◌<◌, ◌+◌, true, false, not, List, [], ◌∷◌, ◌++◌, length, take}
use Rattle.std.proofs.Common.{drop, get_or, map, filter, Contains, All, inl, inr, ⊎_elim, ◌↔◌, Some, None, refl, sym}
use Rattle.std.proofs.Common.{◌∙◌, ap, subst, arith}
use Rattle.std.specs.Prelude.{slice_get, bytes_eq}
use Rattle.std.specs.List.{list_any}
use Rattle.std.specs.List.Sorted.{IsStrictlySortedBy}
use Rattle.std.specs.Global.{Vec}
use Rattle.std.specs.BTreeSet as sorted
use Rattle.std.specs.BTreeMap as tree
use Rattle.std.specs.Ordering.{is_eq}
use Rattle.std.specs.Cmp.Lexicographic.{nat_list_eq_equiv}
use Rattle.std.proofs.lemmas.Bool.{cases_Bool, cond-true, cond-false}
use Rattle.std.proofs.lemmas.Slice.Eq.{bytes_eq-Decides}
use Rattle.std.proofs.lemmas.Map.Text.{is_eq-slice_cmp}
use Rattle.std.proofs.lemmas.Map.Views.{list_any-from_Contains, Contains-from_any}
use Rattle.std.proofs.lemmas.Option.{slice_get_within, slice_get-get_or, get_or_from_slice_get}
use Rattle.std.proofs.lemmas.List.{length-map, length-append, get_or-map, get_or_at, get_or_append_left, get_or-take}
use Rattle.std.proofs.lemmas.List.{map-append, map_push, append-nil, append_assoc, length-take-le, take-append-drop}
use Rattle.std.proofs.lemmas.List.{drop_more}
use Rattle.std.proofs.lemmas.List.Elements.{All-map, All-filter, All-contains, filter_more, Contains-append_left}
use Rattle.std.proofs.lemmas.List.Elements.{Contains-append_cases}
use Rattle.outside.specs.Order.{order, IsBefore, Rising}
use Rattle.outside.proofs.TableLaws.{not_before_itself}
use Rattle.app_config.specs.declared.config.RootLine.{RootLine}
use Rattle.tree_scan_roots.specs.Keys.{key_order, Has, key_paths, number_of, IsNumbering}
use Rattle.tree_scan_roots.specs.Roots.{named, root_paths, namespace_of, default_root, line_root, names_none_of}
use Rattle.tree_scan_roots.specs.Roots.{NamesOnce, AreRoots, IsTwoRoots}
use Rattle.tree_scan_roots.specs.Directories.{IsDefaultRoot}
use Rattle.tree_scan_roots.specs.declared.roots.Root.{Root}
use Rattle.tree_scan_roots.proofs.KeyLaws.{keys_rise, distinct}

-- ---- namespaces
once_tail : (line : RootLine) (lines : List RootLine) → NamesOnce (line ∷ lines) → NamesOnce lines
once_tail line lines once i j d lt within = once (suc i) (suc j) d (omega arith) (omega arith)

path_at : (lines : List RootLine) (n : ℕ) (line : RootLine) → slice_get lines n ≡ Some line → (d : List ℕ) →
    (n < length (named lines)) × (get_or (named lines) n d ≡ line.path)
path_at [] n line e d = let z : None ≡ Some line = e in cc
path_at (first ∷ lines) zero line e d = (omega arith, (let z : first ≡ line = cc in ap (λ l. l.path) z))
path_at (first ∷ lines) (suc n) line e d = let h = path_at lines n line e d in ((let l = h.0 in omega arith), h.1)

bytes_differ : (a b : List ℕ) → a ≢ b → bytes_eq a b ≡ false
bytes_differ a b apart = ⊎_elim (λ y. absurd (apart ((bytes_eq-Decides a b).0 y))) (λ n. n) (cases_Bool (bytes_eq a b))

-- the namespace of a path is that of the one line that names it
pub namespace_at : (lines : List RootLine) (n : ℕ) (line : RootLine) (path : List ℕ) → NamesOnce lines →
    slice_get lines n ≡ Some line → line.path ≡ path → namespace_of lines path ≡ line.namespace
namespace_at [] n line path once e same = let z : None ≡ Some line = e in cc
namespace_at (first ∷ lines) zero line path once e same =
    let is : first ≡ line = cc in
    let h : first.path ≡ path = ap (λ l. l.path) is ∙ same in
    cond-true (bytes_eq first.path path) first.namespace (namespace_of lines path)
    ((bytes_eq-Decides first.path path).1 h) ∙ ap (λ l. l.namespace) is
namespace_at (first ∷ lines) (suc n) line path once e same =
    let at = path_at lines n line e path in
    let apart : first.path ≢ path = λ h. once zero (suc n) path (omega arith) (let l = at.0 in omega arith)
    (h ∙ sym same ∙ sym at.1) in
    cond-false (bytes_eq first.path path) first.namespace (namespace_of lines path)
    (bytes_differ first.path path apart) ∙ namespace_at lines n line path (once_tail first lines once) e same

-- a path that no line names has the namespace Object
pub namespace_nowhere : (lines : List RootLine) (path : List ℕ) → (Contains (named lines) path → ⊥) →
    namespace_of lines path ≡ []
namespace_nowhere [] path none = refl
namespace_nowhere (first ∷ lines) path none =
    let apart : first.path ≢ path = λ e. none (zero, omega arith, e) in
    cond-false (bytes_eq first.path path) first.namespace (namespace_of lines path) (bytes_differ first.path path apart)
    ∙ namespace_nowhere lines path (λ has. none (suc has.0, (let l = has.1 in omega arith), has.2))

module _ (lines : List RootLine) (numbers : tree.BTreeMap (Vec ℕ) ℕ) (are : IsNumbering (named lines) numbers)
    (path : List ℕ) (number : ℕ) (e : number_of numbers path ≡ Some number) where
  got : slice_get (named lines) number ≡ Some path
  got = (are path number).0 e

  -- the number of a path is the place of a root line
  pub line_within : number < length lines
  line_within = let h = slice_get_within (named lines) number path got in simp length-map at h

  -- the namespace of a path is that of the root line with the path's number
  pub namespace_numbered : (d : RootLine) → namespace_of lines path ≡ (get_or lines number d).namespace
  namespace_numbered d =
      let names : (get_or lines number d).path ≡ path =
      sym (get_or-map (λ l. l.path) lines number d path line_within)
      ∙ get_or_from_slice_get (named lines) number path path got in
      namespace_at lines number (get_or lines number d) path (distinct (named lines) numbers are)
      (slice_get-get_or lines number d line_within) names

-- ---- default roots
-- the default roots of directories have the paths of the directories
pub default_paths : (lines : List RootLine) (directories : List (List ℕ)) →
    root_paths (map (default_root lines) directories) ≡ directories
default_paths lines [] = refl
default_paths lines (directory ∷ directories) = ap (λ ds. directory ∷ ds) (default_paths lines directories)

-- of paths that rise, none stands twice
pub once_in_rising : (paths front behind : List (List ℕ)) (path : List ℕ) → Rising paths →
    paths ≡ front ++ path ∷ behind → Contains front path → ⊥
once_in_rising paths front behind path rise e has =
    let within : length front < length paths = rw e (rw length-append (omega arith)) in
    let before = rise has.0 (length front) path has.1 within in
    let first : get_or paths has.0 path ≡ path = rw e (get_or_append_left front (path ∷ behind) path has.0 has.1
    ∙ has.2) in
    let second : get_or paths (length front) path ≡ path =
    rw e (get_or_at front path behind path (length front) refl) in
    not_before_itself path (subst (λ p. IsBefore p path) first
    (subst (λ p. IsBefore (get_or paths has.0 path) p) second before))

-- roots so far, and the directories that are left
abbrev pub IsSoFar : (lines : List RootLine) (keys : List (Vec ℕ)) (roots : List Root) (left : List (Vec ℕ)) → Type 0
IsSoFar lines keys roots left = roots ++ map (default_root lines) (map (λ key. key.items) left)
    ≡ map (default_root lines) (map (λ key. key.items) keys)

-- the next directory in order is not yet among the roots
pub so_far_other : (lines : List RootLine) (keys : List (Vec ℕ)) (roots : List Root) (key : Vec ℕ) (left : List (Vec ℕ))
    → IsStrictlySortedBy key_order keys → IsSoFar lines keys roots (key ∷ left) →
    Contains (root_paths roots) key.items → ⊥
so_far_other lines keys roots key left order so_far =
    let items : List (Vec ℕ) → List (List ℕ) = λ ks. map (λ k. k.items) ks in
    let e : items keys ≡ root_paths roots ++ key.items ∷ items left =
    sym (default_paths lines (items keys)) ∙ ap root_paths (sym so_far)
    ∙ map-append (λ root. root.path) roots (map (default_root lines) (items (key ∷ left)))
    ∙ ap (λ ps. root_paths roots ++ ps) (default_paths lines (items (key ∷ left))) in
    once_in_rising (items keys) (root_paths roots) (items left) key.items (keys_rise keys order) e

-- ---- root lines that name no default root
none_of_is : (directories : List (List ℕ)) (line : RootLine) → (Contains directories line.path → ⊥) →
    names_none_of directories line ≡ true
none_of_is directories line none = ⊎_elim
    (λ y. absurd (none (Contains-from_any (λ x z h. (bytes_eq-Decides x z).0 h) line.path directories y)))
    (λ n. ap not n)
    (cases_Bool (list_any (bytes_eq line.path) directories))

some_of_is : (directories : List (List ℕ)) (line : RootLine) → Contains directories line.path →
    names_none_of directories line ≡ false
some_of_is directories line has = ap not (list_any-from_Contains nat_list_eq_equiv line.path directories has)

module _ (defaults : List Root) (lines : List RootLine) where
  -- the default roots, and then the roots of those of the first lines that name none of them
  abbrev pub with_lines : ℕ → List Root
  with_lines i = defaults ++ map line_root (filter (names_none_of (root_paths defaults)) (take i lines))

  module _ (i : ℕ) (d : RootLine) (within : i < length lines) where
    line_at : RootLine
    line_at = get_or lines i d

    -- no line before has this line's path
    others : NamesOnce lines → All (λ line. line.path ≢ (get_or lines i d).path) (take i lines)
    others once k e lt same =
        let below : k < i = (let h : length (take i lines) ≡ i = length-take-le i lines (omega arith) in omega arith) in
        once k i e.path below (simp length-map within)
        (get_or-map (λ l. l.path) lines k e e.path (omega arith)
        ∙ ap (λ l. l.path) (sym (get_or-take i lines k e below))
        ∙ same
        ∙ sym (get_or-map (λ l. l.path) lines i d e.path within))

    -- a line that names none of these roots adds its own root
    pub line_added : (Contains (root_paths (with_lines i)) (get_or lines i d).path → ⊥) →
        with_lines (i + 1) ≡ with_lines i ++ line_root (get_or lines i d) ∷ []
    line_added none =
        let none' : Contains (root_paths defaults) (get_or lines i d).path → ⊥ =
        λ has. none (rw (map-append (λ root. root.path) defaults
        (map line_root (filter (names_none_of (root_paths defaults)) (take i lines))))
        (Contains-append_left (root_paths defaults)
        (root_paths (map line_root (filter (names_none_of (root_paths defaults)) (take i lines))))
        (get_or lines i d).path has)) in
        let passes = none_of_is (root_paths defaults) (get_or lines i d) none' in
        let more = filter_more (names_none_of (root_paths defaults)) lines i d within
        ∙ ap (λ ls. filter (names_none_of (root_paths defaults)) (take i lines) ++ ls)
        (cond-true _ (get_or lines i d ∷ []) [] passes) in
        ap (λ ls. defaults ++ map line_root ls) more
        ∙ ap (λ rs. defaults ++ rs) (map_push line_root (filter (names_none_of (root_paths defaults)) (take i lines))
        (get_or lines i d))
        ∙ sym (append_assoc defaults (map line_root (filter (names_none_of (root_paths defaults)) (take i lines)))
        (line_root (get_or lines i d) ∷ []))

    -- where each line names another path, a line that names one of these roots adds none
    pub line_passed : NamesOnce lines → Contains (root_paths (with_lines i)) (get_or lines i d).path →
        with_lines (i + 1) ≡ with_lines i
    line_passed once has =
        let path = (get_or lines i d).path in
        let added : List Root = map line_root (filter (names_none_of (root_paths defaults)) (take i lines)) in
        let apart : All (λ p. p ≢ path) (root_paths added) =
        All-map (λ p. p ≢ path) (λ root. root.path) added
        (All-map (λ (root : Root). root.path ≢ path) line_root
        (filter (names_none_of (root_paths defaults)) (take i lines))
        (All-filter (names_none_of (root_paths defaults)) (λ line. line.path ≢ path) (take i lines) (others once))) in
        let split : Contains (root_paths defaults ++ root_paths added) path =
        subst (λ ps. Contains ps path) (map-append (λ root. root.path) defaults added) has in
        let first : Contains (root_paths defaults) path =
        elim (Contains-append_cases (root_paths defaults) (root_paths added) path split) [
          | inl h ↦ h
          | inr h ↦ absurd (All-contains (λ p. p ≢ path) (root_paths added) path apart h refl)
        ] in
        let more = filter_more (names_none_of (root_paths defaults)) lines i d within
        ∙ ap (λ ls. filter (names_none_of (root_paths defaults)) (take i lines) ++ ls)
        (cond-false _ (get_or lines i d ∷ []) [] (some_of_is (root_paths defaults) (get_or lines i d) first))
        ∙ append-nil _ in
        ap (λ ls. defaults ++ map line_root ls) more

-- a root of this path and namespace
abbrev pub root_of : List ℕ → List (List ℕ) → Root
root_of path namespace = record { path = path; namespace = namespace }

-- a root with the path and the namespace of a line is the root of that line
pub root_is : (path : List ℕ) (namespace : List (List ℕ)) (line : RootLine) → path ≡ line.path →
    namespace ≡ line.namespace → root_of path namespace ≡ line_root line
root_is path namespace line p n = rw (p, n) refl

module _ (defaults : List Root) (lines : List RootLine) (i : ℕ) (line : RootLine) (within : i < length lines)
    (is : line ≡ get_or lines i line)
    (roots : List Root) (so_far : roots ≡ with_lines defaults lines i) where
  -- a line that names none of the roots so far adds its own, and the roots are those up to the next line
  pub added_next : (next : List Root) (root : Root) → (Contains (root_paths roots) line.path → ⊥) →
      next ≡ roots ++ root ∷ [] → root ≡ line_root line → next ≡ with_lines defaults lines (i + 1)
  added_next next root none added same =
      let none' : Contains (root_paths (with_lines defaults lines i)) (get_or lines i line).path → ⊥ =
      λ has. none (subst (λ rs. Contains (root_paths rs) line.path) (sym so_far)
      (subst (λ (l : RootLine). Contains (root_paths (with_lines defaults lines i)) l.path) (sym is) has)) in
      added
      ∙ ap (λ r. roots ++ r ∷ []) same
      ∙ ap (λ rs. rs ++ line_root line ∷ []) so_far
      ∙ ap (λ l. with_lines defaults lines i ++ line_root l ∷ []) is
      ∙ sym (line_added defaults lines i line within none')

  -- a line that names one of the roots so far adds none, and the roots are those up to the next line
  pub passed_next : NamesOnce lines → Contains (root_paths roots) line.path → roots ≡ with_lines defaults lines (i + 1)
  passed_next once has =
      let has' = subst (λ (l : RootLine). Contains (root_paths (with_lines defaults lines i)) l.path) is
      (subst (λ rs. Contains (root_paths rs) line.path) so_far has) in
      so_far ∙ sym (line_passed defaults lines i line within once has')

-- ---- the fault
-- the first line whose path an earlier line names is the fault of root lines
pub two_roots : (lines : List RootLine) (place : ℕ) (d : RootLine) (path : List ℕ) → place < length lines →
    (get_or lines place d).path ≡ path
    → NamesOnce (take place lines) → Contains (named (take place lines)) path → IsTwoRoots lines path
two_roots lines place d path within names once again = record {
  before = take place lines;
  line = get_or lines place d;
  behind = drop (place + 1) lines;
  split = sym (take-append-drop place lines) ∙ ap (λ r. take place lines ++ r) (drop_more lines place d within);
  names = names;
  again = again;
  once = once;
}

-- ---- the whole
has_contained : (keys : List (Vec ℕ)) (path : List ℕ) → list_any (λ k. is_eq (order path k.items)) keys
    ≡ list_any (bytes_eq path) (map (λ k. k.items) keys)
has_contained [] path = refl
has_contained (key ∷ keys) path = rw (is_eq-slice_cmp path key.items, has_contained keys path) refl

-- the directories in order and then the other lines are the roots
pub are_roots : (paths : List (List ℕ)) (lines : List RootLine) (found : sorted.BTreeSet (Vec ℕ)) (roots : List Root)
    → sorted.IsOrdered key_order found → ((directory : List ℕ) → Has found directory ↔ IsDefaultRoot paths directory)
    → roots ≡ map (default_root lines) (key_paths found) ++ map line_root
    (filter (names_none_of (key_paths found)) lines)
    → AreRoots paths lines roots
are_roots paths lines found roots ordered exact joined = record {
  defaults = key_paths found;
  rising = keys_rise found.keys ordered;
  exact = λ directory. (
    (λ has. (exact directory).0 (has_contained found.keys directory
        ∙ list_any-from_Contains nat_list_eq_equiv directory (key_paths found) has)),
    (λ is. Contains-from_any (λ x z h. (bytes_eq-Decides x z).0 h) directory (key_paths found)
        (sym (has_contained found.keys directory) ∙ (exact directory).1 is)),
  );
  joined = joined;
}

-- what was added behind the default roots, said of the directories in place of the roots' paths
pub joined_is : (lines : List RootLine) (directories : List (List ℕ)) (first whole : List Root) →
    first ≡ map (default_root lines) directories
    → whole ≡ first ++ map line_root (filter (names_none_of (root_paths first)) lines) →
    whole ≡ map (default_root lines) directories ++ map line_root (filter (names_none_of directories) lines)
joined_is lines directories first whole e joined =
    joined
    ∙ ap (λ roots. roots ++ map line_root (filter (names_none_of (root_paths roots)) lines)) e
    ∙ ap (λ paths. map (default_root lines) directories ++ map line_root (filter (names_none_of paths) lines))
    (default_paths lines directories)
