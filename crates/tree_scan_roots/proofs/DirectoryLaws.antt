-- Paths cut at slashes: which default roots are above a path.
use Rattle.std.proofs.Common.{◌≡◌, ◌≢◌, ℕ, suc, zero, ◌<◌, ◌+◌, List, [], ◌∷◌, ◌++◌, length, take, drop, get_or, codes}
use Rattle.std.proofs.Common.{◌⊎◌, inl, inr, ◌↔◌, Option, Some, None, refl, sym, ◌∙◌, ap, subst, arith}
use Rattle.std.proofs.lemmas.List.{append_assoc, append_cancel_left, length-append, take_at, get_or_at, drop_more}
use Rattle.std.proofs.lemmas.List.{take-append-drop}
use Rattle.std.proofs.lemmas.List.Elements.{Contains-push_cases, Contains-append_left}
use Rattle.std.proofs.lemmas.List.Quantifiers.{Any-push}
use Rattle.std.specs.Prelude.{MatchOption, IfNone}
use Rattle.tree_scan_roots.specs.Directories.{IsName, IsRootName, IsTopRoot, IsConcerns, IsAbove, Exists, IsDefaultRoot}

-- ---- names
name_head : (c : ℕ) (name : List ℕ) → IsName (c ∷ name) → c ≡ 47 → ⊥
name_head c name is e = is (zero, omega arith, e)

name_tail : (c : ℕ) (name : List ℕ) → IsName (c ∷ name) → IsName name
name_tail c name is has = is (suc has.0, (let h = has.1 in omega arith), has.2)

-- a text is cut at its first slash in one way
pub cut_once : (a b x y : List ℕ) → IsName a → IsName b → a ++ 47 ∷ x ≡ b ++ 47 ∷ y → (a ≡ b) × (x ≡ y)
cut_once [] [] x y p q e = (refl, cc)
cut_once [] (c ∷ b) x y p q e = let h : c ≡ 47 = cc in absurd (name_head c b q h)
cut_once (c ∷ a) [] x y p q e = let h : c ≡ 47 = cc in absurd (name_head c a p h)
cut_once (c ∷ a) (d ∷ b) x y p q e =
    let rest : a ++ 47 ∷ x ≡ b ++ 47 ∷ y = cc in
    let same = cut_once a b x y (name_tail c a p) (name_tail d b q) rest in
    let first : c ≡ d = cc in
    let names : a ≡ b = same.0 in
    ((let h : c ∷ a ≡ d ∷ b = cc in h), same.1)

-- a text without a slash isn't cut
pub not_cut : (text a x : List ℕ) → IsName text → text ≡ a ++ 47 ∷ x → ⊥
not_cut text a x is e = is (
  length a,
  (rw e (rw length-append (omega arith))),
  (rw e (get_or_at a 47 x 47 (length a) refl)),
)

-- a name with one byte more that is no slash is a name
pub name_more : (text : List ℕ) (byte : ℕ) → IsName text → byte ≢ 47 → IsName (text ++ byte ∷ [])
name_more text byte is other has = elim (Contains-push_cases text byte 47 has) [ inl h ↦ is h | inr e ↦ other e ]

-- a text around one of its slashes
pub cut_at : (text : List ℕ) (place : ℕ) → place < length text → get_or text place 0 ≡ 47 →
    text ≡ take place text ++ 47 ∷ drop (place + 1) text
cut_at text place lt is =
    let e : drop place text ≡ 47 ∷ drop (place + 1) text = drop_more text place 0 lt
    ∙ ap (λ c. c ∷ drop (place + 1) text) is in
    sym (take-append-drop place text) ∙ ap (λ r. take place text ++ r) e

-- ---- what is above a path
module _ (path name below : List ℕ) (named : IsName name) (is : path ≡ codes "app/" ++ (name ++ 47 ∷ below)) where
  joined : path ≡ (codes "app/" ++ name) ++ 47 ∷ below
  joined = is ∙ sym (append_assoc (codes "app/") name (47 ∷ below))

  -- the first bytes of a path below `app/NAME` are that directory's path
  pub top_front : take (length name + 4) path ≡ codes "app/" ++ name
  top_front = rw joined (take_at (codes "app/" ++ name) (47 ∷ below) (length name + 4) (rw length-append (omega arith)))

  -- the directory `app/NAME` is above a path below it
  pub top_above : IsAbove (codes "app/" ++ name) path
  top_above = (below, joined)

  -- a name that begins what is above the path is this name
  same_cut : (other rest : List ℕ) → IsName other → path ≡ codes "app/" ++ (other ++ 47 ∷ rest) → (other ≡ name)
      × (rest ≡ below)
  same_cut other rest named' e = cut_once other name rest below named' named
      (append_cancel_left (codes "app/") (other ++ 47 ∷ rest) (name ++ 47 ∷ below) (sym e ∙ is))

  -- the one root directly under `app` above a path is `app/NAME`, and the name is a root's
  pub top_only : (directory : List ℕ) → IsTopRoot directory → IsAbove directory path →
      (directory ≡ codes "app/" ++ name) × IsRootName name
  top_only directory top above =
      let e : path ≡ codes "app/" ++ (top.0 ++ 47 ∷ above.0) = above.1 ∙ ap (λ d. d ++ 47 ∷ above.0) top.3
      ∙ append_assoc (codes "app/") top.0 (47 ∷ above.0) in
      let same = same_cut top.0 above.0 top.1 e in
      (top.3 ∙ ap (λ n. codes "app/" ++ n) same.0, subst IsRootName same.0 top.2)

  concerns_joined : (rest : List ℕ) → below ≡ codes "concerns/" ++ rest →
      path ≡ (codes "app/" ++ (name ++ codes "/concerns")) ++ 47 ∷ rest
  concerns_joined rest e =
      is ∙ ap (λ b. codes "app/" ++ (name ++ 47 ∷ b)) e
      ∙ ap (λ b. codes "app/" ++ b) (sym (append_assoc name (codes "/concerns") (47 ∷ rest)))
      ∙ sym (append_assoc (codes "app/") (name ++ codes "/concerns") (47 ∷ rest))

  -- the first bytes of a path below `app/NAME/concerns` are that directory's path
  pub concerns_front : (rest : List ℕ) → below ≡ codes "concerns/" ++ rest →
      take (length name + 13) path ≡ codes "app/" ++ (name ++ codes "/concerns")
  concerns_front rest e = rw (concerns_joined rest e)
      (take_at (codes "app/" ++ (name ++ codes "/concerns")) (47 ∷ rest) (length name + 13)
      (rw (length-append, length-append) (omega arith)))

  -- the directory `app/NAME/concerns` is above a path below it
  pub concerns_above : (rest : List ℕ) → below ≡ codes "concerns/" ++ rest →
      IsAbove (codes "app/" ++ (name ++ codes "/concerns")) path
  concerns_above rest e = (rest, concerns_joined rest e)

  -- the one `app/*/concerns` that can be above a path has the path's name under `app`, and the path goes on so
  pub concerns_only : (directory : List ℕ) → IsConcerns directory → IsAbove directory path →
      (directory ≡ codes "app/" ++ (name ++ codes "/concerns"))
      × ((rest : List ℕ) × (below ≡ codes "concerns/" ++ rest))
  concerns_only directory concerns above =
      let other = concerns.0 in
      let rest = above.0 in
      let e : path ≡ codes "app/" ++ (other ++ 47 ∷ (codes "concerns/" ++ rest)) =
      above.1 ∙ ap (λ d. d ++ 47 ∷ rest) concerns.2
      ∙ append_assoc (codes "app/") (other ++ codes "/concerns") (47 ∷ rest)
      ∙ ap (λ b. codes "app/" ++ b) (append_assoc other (codes "/concerns") (47 ∷ rest)) in
      let same = same_cut other (codes "concerns/" ++ rest) concerns.1 e in
      (concerns.2 ∙ ap (λ n. codes "app/" ++ (n ++ codes "/concerns")) same.0, (rest, sym same.1))

  -- where the name is a root's, `app/NAME` is the one root directly under `app` above the path
  pub top_is : IsRootName name → (directory : List ℕ) →
      (Some (take (length name + 4) path) ≡ Some directory) ↔ (IsTopRoot directory × IsAbove directory path)
  top_is root directory = (
    (λ e. let same : take (length name + 4) path ≡ directory = cc in
        let at : codes "app/" ++ name ≡ directory = sym top_front ∙ same in
        subst (λ d. IsTopRoot d × IsAbove d path) at ((name, named, root, refl), top_above)),
    (λ h. ap (λ d. Some d) (top_front ∙ sym (top_only directory h.0 h.1).0)),
  )

  -- where the name is no root's, no root directly under `app` is above the path
  pub top_isnt : (IsRootName name → ⊥) → (directory : List ℕ) →
      (None ≡ Some directory) ↔ (IsTopRoot directory × IsAbove directory path)
  top_isnt other directory = ((λ e. cc), (λ h. absurd (other (top_only directory h.0 h.1).1)))

  -- where the path goes on with `concerns/`, `app/NAME/concerns` is the one of its kind above the path
  pub concerns_is : (rest : List ℕ) × (below ≡ codes "concerns/" ++ rest) → (directory : List ℕ) →
      (Some (take (length name + 13) path) ≡ Some directory) ↔ (IsConcerns directory × IsAbove directory path)
  concerns_is begins directory = (
    (λ e. let same : take (length name + 13) path ≡ directory = cc in
        let at : codes "app/" ++ (name ++ codes "/concerns") ≡ directory = sym (concerns_front begins.0 begins.1)
        ∙ same in
        subst (λ d. IsConcerns d × IsAbove d path) at ((name, named, refl), concerns_above begins.0 begins.1)),
    (λ h. ap (λ d. Some d) (concerns_front begins.0 begins.1 ∙ sym (concerns_only directory h.0 h.1).0)),
  )

  -- where the path doesn't go on with `concerns/`, no `app/*/concerns` is above it
  pub concerns_isnt : ((rest : List ℕ) × (below ≡ codes "concerns/" ++ rest) → ⊥) → (directory : List ℕ) →
      (None ≡ Some directory) ↔ (IsConcerns directory × IsAbove directory path)
  concerns_isnt other directory = ((λ e. cc), (λ h. absurd (other (concerns_only directory h.0 h.1).1)))

-- a path that has no name below `app` has no default root above it
abbrev pub NoName : List ℕ → Type 0
NoName path = (name below : List ℕ) → IsName name → path ≢ codes "app/" ++ (name ++ 47 ∷ below)

-- a path below app without a further slash has no name of a directory there
pub no_name : (path below : List ℕ) → path ≡ codes "app/" ++ below → IsName below → NoName path
no_name path below e is name rest named e' =
    not_cut below name rest is (append_cancel_left (codes "app/") below (name ++ 47 ∷ rest) (sym e ∙ e'))

-- what a cut says where there is none
pub none_weaker : {T : Type 0} {P Q : Type 0} (R : T → Type 0) (r : Option T) → MatchOption r P R → (P → Q) → IfNone r Q
none_weaker R None h f = f h
none_weaker R (Some x) h f = tt

-- the directories that a path adds: the one of the first kind, and then the one of the second
pub both_added : (old mid new top concerns : Type 0) (T C above : Type 0) → mid ↔ (old ⊎ top) →
    new ↔ (mid ⊎ concerns) → top ↔ (T × above) → concerns ↔ (C × above)
    → new ↔ (old ⊎ ((T ⊎ C) × above))
both_added old mid new top concerns T C above first second one two = (
  (λ h. elim (second.0 h) [
    | inl m ↦ elim (first.0 m) [ inl o ↦ inl o | inr t ↦ let a = one.0 t in inr (inl a.0, a.1) ]
    | inr c ↦ let a = two.0 c in inr (inr a.0, a.1)
  ]),
  (λ h. elim h [
    | inl o ↦ second.1 (inl (first.1 (inl o)))
    | inr a ↦ elim a.0 [
      | inl t ↦ second.1 (inl (first.1 (inr (one.1 (t, a.1)))))
      | inr c ↦ second.1 (inr (two.1 (c, a.1)))
    ]
  ]),
)

-- ---- one path more
-- a directory that exists with one path more existed before, or is above that path
pub exists_cases : (paths : List (List ℕ)) (path directory : List ℕ) → Exists (paths ++ path ∷ []) directory →
    Exists paths directory ⊎ IsAbove directory path
exists_cases paths path directory has = elim (Contains-push_cases paths path has.1 (has.0, has.2, has.3)) [
  | inl h ↦ inl (h.0, has.1, h.1, h.2, has.4)
  | inr e ↦ inr (subst (IsAbove directory) (sym e) has.4)
]

-- a directory with a file below it still has one among more files
pub exists_still : (paths : List (List ℕ)) (path directory : List ℕ) → Exists paths directory →
    Exists (paths ++ path ∷ []) directory
exists_still paths path directory has =
    let h = Contains-append_left paths (path ∷ []) has.1 (has.0, has.2, has.3) in
    (h.0, has.1, h.1, h.2, has.4)

-- a directory above a new path has a file below it
pub exists_now : (paths : List (List ℕ)) (path directory : List ℕ) → IsAbove directory path →
    Exists (paths ++ path ∷ []) directory
exists_now paths path directory above = Any-push (IsAbove directory) paths path above

-- the default roots of one file more
pub roots_more : (paths : List (List ℕ)) (path directory : List ℕ) (old new : Type 0) →
    old ↔ IsDefaultRoot paths directory
    → new ↔ (old ⊎ ((IsTopRoot directory ⊎ IsConcerns directory) × IsAbove directory path)) →
    new ↔ IsDefaultRoot (paths ++ path ∷ []) directory
roots_more paths path directory old new was step = (
  (λ h. elim (step.0 h) [
    | inl o ↦ let d = was.0 o in (d.0, exists_still paths path directory d.1)
    | inr a ↦ (a.0, exists_now paths path directory a.1)
  ]),
  (λ h. elim (exists_cases paths path directory h.1) [
    | inl e ↦ step.1 (inl (was.1 (h.0, e)))
    | inr a ↦ step.1 (inr (h.0, a))
  ]),
)
