-- What an object of the outside tells of itself is an option of a list: the bytes that it has left, the bytes that were
-- written to it, the files that it holds, what it gave. It is None where the object doesn't tell. A call's clause is an
-- equation between what was told before and after it, so an object that tells goes on telling, and one that doesn't
-- tell doesn't begin to.
use Rattle.std.specs.Prelude.{List, ◌++◌, Option, Some, None}

-- what was told, with these behind it
abbrev pub appended : {T : Type 0} → Option (List T) → List T → Option (List T)
appended None more = None
appended (Some all) more = Some (all ++ more)

-- what was told, with these in front of it
abbrev pub prefixed : {T : Type 0} → List T → Option (List T) → Option (List T)
prefixed first None = None
prefixed first (Some all) = Some (first ++ all)
