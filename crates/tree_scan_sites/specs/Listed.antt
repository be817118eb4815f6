-- Spellings in a list.
use Rattle.std.specs.Prelude.{ℕ, Bool, false, cond, List, [], ◌∷◌, Contains, nat_eq, Option, Some, None}
use Rattle.std.specs.List.{flat_map}
use Rattle.std.specs.Ordering.{nat_cmp, ordering_then, is_lt, is_eq}
use Rattle.std.specs.declared.cmp.Ordering.{Ordering}
use Rattle.tree_scan_sites.specs.declared.spelled.Spelled.{Spelled}
use Rattle.tree_scan_sites.specs.Paths.{path_order}

-- the list has it that this file spells the constant below this root
abbrev pub Lists : List Spelled → List (List ℕ) → (root file : ℕ) → Type 0
Lists spelled c root file = Contains spelled (record { constant = c; root = root; file = file })

-- by constant, then by root, then by file
abbrev pub spelled_order : Spelled → Spelled → Ordering
spelled_order s t = ordering_then (path_order s.constant t.constant)
    (ordering_then (nat_cmp s.root t.root) (nat_cmp s.file t.file))

-- the spelling's constant is before the path
abbrev pub comes_before : List (List ℕ) → Spelled → Bool
comes_before path s = is_lt (path_order s.constant path)

-- the first file in the list that spells the path
abbrev pub first_file : List (List ℕ) → List Spelled → Option ℕ
first_file path [] = None
first_file path (s ∷ spelled) = cond (is_eq (path_order s.constant path)) (Some s.file) (first_file path spelled)

-- a first file was found, and it is this one
abbrev pub is_file : Option ℕ → ℕ → Bool
is_file None file = false
is_file (Some first) file = nat_eq first file

-- the spelling's file, where another one is the first among all
abbrev pub hidden_file : (all : List Spelled) → Spelled → List ℕ
hidden_file all s = cond (is_file (first_file s.constant all) s.file) [] (s.file ∷ [])

-- the files of these spellings that aren't the first among all to spell their constant
abbrev pub hidden_files : (all spelled : List Spelled) → List ℕ
hidden_files all spelled = flat_map (hidden_file all) spelled
