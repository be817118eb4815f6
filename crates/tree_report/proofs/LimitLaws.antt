-- Laws of the limits.
use Rattle.std.proofs.Common.{◌≡◌, ℕ, zero, suc, ◌<◌, ◌≤◌, ◌^◌, List, [], ◌∷◌, ◌++◌, length, All}
use Rattle.std.proofs.Common.{Option, Some, None, IfNone, Bool, true, false, cond, slice_index_or, refl}
use Rattle.std.proofs.Common.{sym, ap, subst, arith}
use Rattle.std.specs.List.{find}
use Rattle.std.proofs.lemmas.Grind.{common_steps}
use Rattle.std.proofs.lemmas.List.Elements.{All-cons, All-tail}
use Rattle.outside.specs.declared.files.FileEntry.{FileEntry}
use Rattle.tree_report.specs.declared.limits.Limit.{Limit}
use Rattle.tree_report.specs.declared.limits.Limit.TheVariants.{Files, Bytes, Path}
use Rattle.tree_report.specs.Limits.{IsWithinLimits, IsExceeded, IsFirstLongPath, has_long_path, total_bytes}

-- a file of a path that is not too long
abbrev pub IsShort : FileEntry → Type 0
IsShort file = length file.path ≤ 255

all_of_none : All IsShort []
all_of_none = λ k d h. grind (arith, common_steps)

found_here : (file other : FileEntry) (files : List FileEntry) (test : Bool) → has_long_path file ≡ test →
    cond test (Some file) (find has_long_path files) ≡ Some other
    → (find has_long_path files ≡ Some other → IsFirstLongPath files (length other.path)) →
    IsFirstLongPath (file ∷ files) (length other.path)
found_here file other files true t e rest =
    let same : file ≡ other = cc in
    let long : 255 < length file.path = grind (arith, common_steps) in
    ([], file, files, refl, all_of_none, long, ap (λ (f : FileEntry). length f.path) (sym same))
found_here file other files false t e rest =
    let r = rest e in
    let short : length file.path ≤ 255 = grind (arith, common_steps) in
    (file ∷ r.0, r.1, r.2, ap (λ (l : List FileEntry). file ∷ l) r.3, All-cons IsShort file r.0 short r.4, r.5, r.6)

-- what the search finds has the first long path
pub first_long_is : (files : List FileEntry) (other : FileEntry) → find has_long_path files ≡ Some other →
    IsFirstLongPath files (length other.path)
first_long_is [] other e = cc
first_long_is (file ∷ files) other e = found_here file other files (has_long_path file) refl e
    (first_long_is files other)

short_here : (file : FileEntry) (files : List FileEntry) (test : Bool) → has_long_path file ≡ test →
    cond test (Some file) (find has_long_path files) ≡ None
    → (find has_long_path files ≡ None → All IsShort files) → All IsShort (file ∷ files)
short_here file files true t e rest = cc
short_here file files false t e rest =
    let short : length file.path ≤ 255 = grind (arith, common_steps) in
    All-cons IsShort file files short (rest e)

-- where the search finds nothing no path is long
pub none_is_long : (files : List FileEntry) → find has_long_path files ≡ None → All IsShort files
none_is_long [] e = all_of_none
none_is_long (file ∷ files) e = short_here file files (has_long_path file) refl e (none_is_long files)

middle_is_short : (front : List FileEntry) (file : FileEntry) (back : List FileEntry) →
    All IsShort (front ++ file ∷ back) → IsShort file
middle_is_short [] file back all = all 0 file (grind (arith, common_steps))
middle_is_short (first ∷ front) file back all =
    middle_is_short front file back (All-tail IsShort first (front ++ file ∷ back) all)

-- files that exceed a limit are not within the limits
pub exceeded_is_over : (files : List FileEntry) (limit : Limit) (number : ℕ) → IsExceeded files limit number →
    ¬ (IsWithinLimits files)
exceeded_is_over files Files number over within = let most = within.number in absurd (omega (arith, over.0))
exceeded_is_over files Bytes number over within = let most = within.bytes in absurd (omega (arith, over.1))
exceeded_is_over files Path number over within =
    let long = over.2 in
    let P : List FileEntry → Type 0 = λ l. All IsShort l in
    let short = middle_is_short long.0 long.1 long.2 (subst P long.3 within.paths) in
    let wide = long.5 in
    absurd (omega (arith, short, wide))

member_fits : (files : List FileEntry) (k : ℕ) (d : FileEntry) → k < length files →
    length (slice_index_or files k d).bytes ≤ total_bytes files
member_fits [] k d h = grind (arith, common_steps)
member_fits (file ∷ files) zero d h = grind (arith, common_steps)
member_fits (file ∷ files) (suc k) d h = let rest = member_fits files k d (grind (arith, common_steps)) in
    grind (arith, common_steps)

-- files within the limits have fewer than 2^32 bytes each
pub small_files : (files : List FileEntry) → IsWithinLimits files →
    All (λ (file : FileEntry). length file.bytes < 2 ^ 32) files
small_files files within = λ k d h. let fits = member_fits files k d h in let all = within.bytes in omega arith

-- what holds anyway holds where nothing was found
pub if_none : (found : Option ℕ) (P : Type 0) → P → IfNone found P
if_none None P p = p
if_none (Some number) P p = tt
