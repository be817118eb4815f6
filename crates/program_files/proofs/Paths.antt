-- Paths and their levels.
use Rattle.std.proofs.Common.{◌≡◌, ℕ, Bool, true, false, not, ◌&&◌, List, [], ◌∷◌, inl, inr, refl, sym, subst, bytes_eq}
use Rattle.std.proofs.lemmas.Bool.{false≢true, and_from}
use Rattle.std.specs.Cmp.Lexicographic.{pointwise_decides, bytes_decides}
use Rattle.program_places.specs.Paths.{same_path, begins, levels}
use Rattle.program_files.specs.Files.{is_above}
use Rattle.program_files.specs.Members.{Among}
use Rattle.program_files.proofs.Lists.{among_map}

-- the test of paths decides whether they are the same
pub path_decides : (a b : List (List ℕ)) → (same_path a b ≡ true → a ≡ b) × (a ≡ b → same_path a b ≡ true)
path_decides = pointwise_decides bytes_decides

-- a path passes the test with itself
pub path_itself : (a : List (List ℕ)) → same_path a a ≡ true
path_itself a = (path_decides a a).1 refl

-- a name passes the test with itself
pub name_itself : (a : List ℕ) → bytes_eq a a ≡ true
name_itself a = (bytes_decides a a).1 refl

-- a path begins itself
pub begins_itself : (a : List (List ℕ)) → begins a a ≡ true
begins_itself [] = refl
begins_itself (n ∷ ns) = and_from (bytes_eq n n) (begins ns ns) (name_itself n) (begins_itself ns)

-- a level of a path begins it
pub level_begins : (p path : List (List ℕ)) → Among p (levels path) → begins p path ≡ true
level_begins p [] h = absurd h
level_begins p (n ∷ ns) (inl e) = subst (λ q. begins q (n ∷ ns) ≡ true) (sym e)
    (and_from (bytes_eq n n) true (name_itself n) refl)
level_begins p (n ∷ ns) (inr h) =
    let i = among_map (λ q. n ∷ q) p (levels ns) h in
    subst (λ q. begins q (n ∷ ns) ≡ true) (sym i.2) (and_from (bytes_eq n n) (begins i.0 ns) (name_itself n)
    (level_begins i.0 ns i.1))

not_both : (x y : Bool) → y ≡ true → not (x && not y) ≡ true
not_both true true e = refl
not_both false true e = refl
not_both x false e = absurd (false≢true e)

-- what a path begins with isn't below it
pub not_above : (path constant : List (List ℕ)) → begins constant path ≡ true → not (is_above path constant) ≡ true
not_above path constant e = not_both (begins path constant) (begins constant path) e
