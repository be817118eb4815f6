-- A printed constant path is its outermost name and, behind it, each name with `::` (58, 58) before it.
use Rattle.std.proofs.Common.{◌≡◌, ℕ, List, [], ◌∷◌, ◌++◌, sym, ap, ◌∙◌, append-nil, append_assoc}
use Rattle.std.specs.List.{flat_map}
use Rattle.ruby_types.specs.Paths.{path_text}

path_text_of_names : (outermost : List ℕ) (names : List (List ℕ)) →
    path_text (outermost ∷ names) ≡ outermost ++ flat_map (λ name. 58 ∷ 58 ∷ name) names
path_text_of_names outermost [] = sym (append-nil outermost)
path_text_of_names outermost (name ∷ names) = ap (λ text. outermost ++ (58 ∷ 58 ∷ text)) (path_text_of_names name names)

-- the outermost name written, and then the others
pub names_written : (names : List (List ℕ)) (outermost : List ℕ) (inner : List (List ℕ))
    (before between after : List ℕ) →
    names ≡ outermost ∷ inner → between ≡ before ++ outermost →
    after ≡ between ++ flat_map (λ name. 58 ∷ 58 ∷ name) inner →
    after ≡ before ++ path_text names
names_written names outermost inner before between after are first others =
    others
    ∙ ap (λ text. text ++ flat_map (λ name. 58 ∷ 58 ∷ name) inner) first
    ∙ append_assoc before outermost _
    ∙ ap (λ text. before ++ text) (sym (path_text_of_names outermost inner) ∙ ap path_text (sym are))
