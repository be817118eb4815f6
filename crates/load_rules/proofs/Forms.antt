-- What was matched is of the first form.
use Rattle.std.proofs.Common.{◌≡◌, ◌↔◌, ℕ, ◌<◌, ◌≤◌, Bool, true, IsTrue, List, [], ◌∷◌, length, get_or, refl, ap, sym}
use Rattle.std.proofs.Common.{◌∙◌, arith}
use Rattle.ruby_types.specs.declared.tree.Def.{Def}
use Rattle.ruby_types.specs.declared.tree.Def.TheVariants as def
use Rattle.ruby_types.specs.declared.tree.Stmt.{Stmt}
use Rattle.load_rules.specs.FirstForm.{FirstParts, text_body, first_method}

one_of : {A : Type 0} (xs : List A) → length xs ≡ 1 → (x : A) × (xs ≡ x ∷ [])
one_of [] h = absurd (omega arith)
one_of (x ∷ []) h = (x, refl)
one_of (x ∷ (y ∷ xs)) h = absurd (omega arith)

-- the one name of the path is the class's
pub named : (path : List (List ℕ)) (class name : List ℕ) (same : Bool) → 1 ≤ length path → length path < 2 →
    name ≡ get_or path 0 name
    → (IsTrue same ↔ (name ≡ class)) → IsTrue same ↔ (path ≡ class ∷ [])
named path class name same least below is decides =
    let one : (x : List ℕ) × (path ≡ x ∷ []) = one_of path (omega arith) in
    let first : name ≡ one.0 = is ∙ ap (λ l. get_or l 0 name) one.1 in
    let here : path ≡ name ∷ [] = one.1 ∙ ap (λ x. x ∷ []) (sym first) in (
      λ e. here ∙ ap (λ x. x ∷ []) (decides.0 e),
      λ e.
          decides.1 (let both : ◌≡◌ {A = List (List ℕ)} (name ∷ []) (class ∷ []) = sym here ∙ e in cc),
    )

-- a singleton method with one parameter, whose body is one plain text, is a method of the first form
pub method_from : (definition : Def) (single : Bool) (name text found : List ℕ) (params : List (List ℕ))
    (body slice : List Stmt) (count : ℕ)
    → definition ≡ def.Method single name params body → single ≡ true → count ≡ length params → count ≡ 1 →
    slice ≡ body → slice ≡ text_body text → found ≡ name
    → (parts : FirstParts) × ((definition ≡ first_method parts) × ((found ≡ parts.name) × (text ≡ parts.text)))
method_from definition single name text found params body slice count is es ec one eb et ef =
    let p : (x : List ℕ) × (params ≡ x ∷ []) = one_of params (sym ec ∙ one) in (
      record { name = found; parameter = p.0; text = text },
      (
        is
            ∙ ap (λ s. def.Method s name params body) es
            ∙ ap (λ n. def.Method true n params body) (sym ef)
            ∙ ap (λ ps. def.Method true found ps body) p.1
            ∙ ap (λ b. def.Method true found (p.0 ∷ []) b) (sym eb ∙ et),
        (refl, refl),
      ),
    )
