-- What a search among files in the order of their paths comes to.
use Rattle.std.proofs.Common.{◌≡◌, ◌∙◌, ℕ, ◌<◌, ◌≤◌, List, length, [], Some, slice_get, ap}
use Rattle.std.specs.List.{HoldsAt}
use Rattle.std.specs.List.Sorted.{IsNonDecreasingBy, IsPartitionPoint}
use Rattle.std.specs.Option.{option_map}
use Rattle.std.specs.Ordering.{ordering_index}
use Rattle.std.specs.declared.cmp.Ordering.TheVariants.{Less, Equal, Greater}
use Rattle.std.proofs.lemmas.Map.Lookups.{exact_bytes}
use Rattle.std.proofs.lemmas.Option.{slice_get-map, slice_get-get_or}
use Rattle.outside.specs.Order.{Rising, order}
use Rattle.outside.specs.Table.{HasPath}
use Rattle.outside.specs.Tree.{paths_of}
use Rattle.outside.specs.declared.files.FileEntry.{FileEntry}
use Rattle.outside.proofs.TableLaws.{answers_rise, no_path}

abbrev some_file : List ℕ → FileEntry
some_file path = record { path = path; bytes = []; stamp = record { length = 0; time = 0 } }

-- the file that is found has the path
pub path_found : (files : List FileEntry) (path : List ℕ) (i : ℕ) → i < length files →
    HoldsAt (λ f. order f.path path ≡ Equal) files i → slice_get (paths_of files) i ≡ Some path
path_found files path i within is =
    slice_get-map (λ (f : FileEntry). f.path) files i
    ∙ ap (option_map (λ (f : FileEntry). f.path)) (slice_get-get_or files i (some_file path) within)
    ∙ ap (λ x. Some x) (exact_bytes _ path (is (some_file path)))

-- where none is found, none has it
pub path_missing : (files : List FileEntry) (path : List ℕ) (i : ℕ) → Rising (paths_of files) → i ≤ length files →
    (IsNonDecreasingBy (λ f. ordering_index (order f.path path)) files →
    IsPartitionPoint (λ f. order f.path path ≡ Less) (λ f. order f.path path ≡ Greater) files i) →
    HasPath files path → ⊥
path_missing files path i rise within parts =
    no_path files path rise i within (parts (answers_rise files path rise))
