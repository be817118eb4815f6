-- The fault of root lines is one, and lines that name each path once have none.
use Rattle.std.proofs.Common.{◌≡◌, ℕ, ◌<◌, List, ◌∷◌, ◌++◌, length, get_or, inl, inr, refl, sym, ◌∙◌, ap, arith}
use Rattle.std.proofs.lemmas.Bool.{cases_order}
use Rattle.std.proofs.lemmas.List.{length-append, get_or_at, get_or_append_left, map-append}
use Rattle.app_config.specs.declared.config.RootLine.{RootLine}
use Rattle.std.specs.Prelude.{Result, Ok, Err, OnOk, IfErr, IsErrAnd}
use Rattle.tree_scan_roots.specs.Roots.{named, NamesOnce, IsTwoRoots, IsFault, IsFaultAt}
use Rattle.tree_scan_roots.specs.declared.roots.RootsFault.{RootsFault}
use Rattle.tree_scan_roots.specs.declared.roots.RootsFault.TheVariants.{TwoRoots, Memory}

module _ (lines : List RootLine) (path : List ℕ) (two : IsTwoRoots lines path) where
  named_is : named lines ≡ named two.before ++ two.line.path ∷ named two.behind
  named_is = ap named two.split ∙ map-append (λ line. line.path) two.before (two.line ∷ two.behind)

  -- the line at fault is one of the root lines
  pub within : length (named two.before) < length (named lines)
  within = rw named_is (rw length-append (omega arith))

  -- the line at fault names the path of the fault
  pub here : (d : List ℕ) → get_or (named lines) (length (named two.before)) d ≡ path
  here d = ap (λ paths. get_or paths (length (named two.before)) d) named_is
      ∙ get_or_at (named two.before) two.line.path (named two.behind) d (length (named two.before)) refl ∙ two.names

  -- a line before the one at fault names the path too
  pub earlier : get_or (named lines) two.again.0 path ≡ path
  earlier = ap (λ paths. get_or paths two.again.0 path) named_is
      ∙ get_or_append_left (named two.before) (two.line.path ∷ named two.behind) path two.again.0 two.again.1
      ∙ two.again.2

  -- up to the line at fault the paths are those of the lines before it
  pub before_is : (k : ℕ) (d : List ℕ) → k < length (named two.before) →
      get_or (named lines) k d ≡ get_or (named two.before) k d
  before_is k d lt = ap (λ paths. get_or paths k d) named_is
      ∙ get_or_append_left (named two.before) (two.line.path ∷ named two.behind) d k lt

  -- root lines that name each path once have no fault
  pub no_fault : NamesOnce lines → ⊥
  no_fault once = once two.again.0 (length (named two.before)) path two.again.1 within (earlier ∙ sym (here path))

-- a fault isn't before another
not_before : (lines : List RootLine) (a b : List ℕ) (first : IsTwoRoots lines a) (second : IsTwoRoots lines b) →
    length (named first.before) < length (named second.before) → ⊥
not_before lines a b first second lt =
    let m = first.again.0 in
    let k = length (named first.before) in
    let less : m < length (named second.before) = let h = first.again.1 in omega arith in
    second.once m k a first.again.1 lt
    (sym (before_is lines b second m a less) ∙ earlier lines a first ∙ sym (here lines a first a)
    ∙ before_is lines b second k a lt)

-- root lines have one first fault at most
pub one_fault : (lines : List RootLine) (a b : List ℕ) → IsTwoRoots lines a → IsTwoRoots lines b → a ≡ b
one_fault lines a b first second = elim (cases_order (length (named first.before)) (length (named second.before))) [
  | inl e ↦ sym (here lines a first a) ∙ ap (λ k. get_or (named lines) k a) e ∙ here lines b second a
  | inr apart ↦ elim apart [
    | inl lt ↦ absurd (not_before lines a b first second lt)
    | inr lt ↦ absurd (not_before lines b a second first lt)
  ]
]

-- where lines name this path twice, the answer is this fault, or memory ran out
pub only_fault : {T : Type 0} (lines : List RootLine) (result : Result T RootsFault) →
    OnOk result (NamesOnce lines) → IfErr result (IsFault lines) → (path : List ℕ) → IsTwoRoots lines path →
    IsErrAnd result (IsFaultAt path)
only_fault lines (Ok table) once fault path two = absurd (no_fault lines path two once)
only_fault lines (Err (TwoRoots other)) once fault path two = one_fault lines other path fault two
only_fault lines (Err Memory) once fault path two = tt
