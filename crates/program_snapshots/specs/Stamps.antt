-- Whether stamps are those of files.
use Rattle.std.specs.Prelude.{ℕ, Bool, true, false, ◌&&◌, ◌==◌, List, [], ◌∷◌, bytes_eq}
use Rattle.outside.specs.declared.files.FileEntry.{FileEntry}
use Rattle.outside.specs.declared.files.Stamp.{Stamp}

-- the path and the stamp are the file's
abbrev pub same_stamp : List ℕ × Stamp → FileEntry → Bool
same_stamp s f = bytes_eq s.0 f.path && ((s.1.length == f.stamp.length) && (s.1.time == f.stamp.time))

-- each path and stamp is a file's, in order
abbrev pub same_stamps : List (List ℕ × Stamp) → List FileEntry → Bool
same_stamps [] [] = true
same_stamps [] (f ∷ fs) = false
same_stamps (s ∷ ss) [] = false
same_stamps (s ∷ ss) (f ∷ fs) = same_stamp s f && same_stamps ss fs
