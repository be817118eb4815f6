-- The segments of a path.
use Rattle.std.proofs.Common.{◌≡◌, ◌==◌, ℕ, true, false, cond, ◌&&◌, List, [], ◌∷◌, refl, ap, ◌∙◌}
use Rattle.std.specs.List.{onto_first, list_all}
use Rattle.app_config.specs.Text.{split}
use Rattle.app_config.specs.Paths.{is_plain, is_top, are_plain, are_below_top, is_tree_path, segments}

onto_first-some : (first : ℕ) (parts : List (List ℕ)) → onto_first first parts ≡ [] → ⊥
onto_first-some first [] e = cc
onto_first-some first (part ∷ parts) e = cc

-- a text has a part at least
pub split-some : (byte : ℕ) (text : List ℕ) → split byte text ≡ [] → ⊥
split-some byte [] e = cc
split-some byte (first ∷ rest) e =
    elim (first == byte) as (λ v. cond v ([] ∷ split byte rest) (onto_first first (split byte rest)) ≡ [] → ⊥)
    [ true ↦ λ h. cc | false ↦ λ h. onto_first-some first (split byte rest) h ] e

below_top : (top : List ℕ) (parts : List (List ℕ)) → (parts ≡ [] → ⊥) →
    are_below_top (top ∷ parts) ≡ (is_top top && list_all is_plain parts)
below_top top [] some = absurd (some refl)
below_top top (next ∷ rest) some = refl

-- a path with a slash, by what stands before and behind the first
pub is_tree_path_cut : (path top below : List ℕ) → segments path ≡ top ∷ segments below →
    is_tree_path path ≡ (is_top top && are_plain below)
is_tree_path_cut path top below e = ap are_below_top e ∙ below_top top (segments below) (split-some 47 below)
