-- Entries as contracts see them.
use Rattle.std.specs.Prelude.{true, false, List, map, None}
use Rattle.std.specs.List.{flat_map}
use Rattle.ruby_types.specs.declared.tree.Def.{Def}
use Rattle.program_places.specs.Paths.{Path}
use Rattle.program_files.specs.Entries as plain
use Rattle.program_files.specs.Entries.{Opens, Assigns, Defines, Includes, Readers}
use Rattle.program_entries.specs.declared.entry.Entry.{Entry}
use Rattle.program_entries.specs.declared.entry.What.{What}
use Rattle.program_entries.specs.declared.entry.What.TheVariants as what

-- what is written, without references
abbrev pub seen_what : What → plain.What
seen_what what.Module = Opens false None
seen_what (what.Class parent) = Opens true parent.now
seen_what (what.Assigned value) = Assigns value.now
seen_what (what.Method single name params body) = Defines single name.now params.now body.now
seen_what (what.Include constant) = Includes constant.now
seen_what (what.Readers names) = Readers names.now

-- an entry, without references
abbrev pub seen : Entry → plain.Entry
seen e = record { constant = e.constant; scopes = e.scopes; what = seen_what e.what }

-- entries, without references
abbrev pub seen_all : List Entry → List plain.Entry
seen_all es = map seen es

-- what definitions write that stand one after another inside this constant, in these scopes
abbrev pub written_by : List Def → Path → List Path → List plain.Entry
written_by ds around scopes = flat_map (λ d. plain.entries_of d around scopes) ds
