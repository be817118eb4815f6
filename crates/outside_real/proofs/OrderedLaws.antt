-- A file behind the last one keeps files in the order of their paths.
use Rattle.std.proofs.Common.{ℕ, ◌<◌, ◌+◌, ◌-◌, List, [], ◌∷◌, ◌++◌, length, get_or, AllPairs}
use Rattle.std.proofs.Common.{arith, inl, inr}
use Rattle.std.proofs.lemmas.Cmp.{nat_list_cmp_total}
use Rattle.std.proofs.lemmas.List.{map-append}
use Rattle.std.proofs.lemmas.List.Elements.{All-cons, All-append}
use Rattle.std.proofs.lemmas.List.Quantifiers.{all_pairs_push}
use Rattle.outside.specs.Order.{IsBefore, Rising}
use Rattle.outside.specs.Watched.{IsWatched, ListsWatched}
use Rattle.outside.specs.Tree.{paths_of}
use Rattle.outside.specs.declared.files.FileEntry.{FileEntry}
use Rattle.outside.proofs.TableLaws.{files_rise, paths_rise, le_cases}
use Rattle.outside_real.specs.Ordered.{IsBehindLast}

abbrev Follows : FileEntry → FileEntry → Type 0
Follows f g = IsBefore f.path g.path

module _ (files : List FileEntry) (file : FileEntry) (behind : IsBehindLast files file.path) where
  each_before : AllPairs Follows files → (k : ℕ) (d : FileEntry) → k < length files →
      IsBefore (get_or files k d).path file.path
  each_before rise k d lt = elim (le_cases (k + 1) (length files) (omega arith)) [
    | inl a ↦ nat_list_cmp_total.trans (get_or files k d).path (get_or files (length files - 1) d).path file.path
        (rise k (length files - 1) d (omega arith) (omega arith)) (behind (length files - 1) d (omega arith))
    | inr e ↦ behind k d e
  ]

  added_rise : Rising (paths_of files) → Rising (paths_of (files ++ file ∷ []))
  added_rise rise = paths_rise (files ++ file ∷ [])
      (all_pairs_push Follows files file (files_rise files rise) (each_before (files_rise files rise)))

  -- one watched file more, behind the others, is listed with them
  pub added_listed : ListsWatched (paths_of files) → IsWatched file.path → ListsWatched (paths_of (files ++ file ∷ []))
  added_listed listed watched = record {
    watched = rw (map-append (λ (f : FileEntry). f.path) files (file ∷ []))
        (All-append IsWatched (paths_of files) (file.path ∷ []) listed.watched
        (All-cons IsWatched file.path [] watched (λ k d h. absurd (omega (arith, h)))));
    rising = added_rise listed.rising;
  }
