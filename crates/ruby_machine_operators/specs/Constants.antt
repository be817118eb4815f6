-- What a machine does that resolves a constant.
use Rattle.std.specs.Prelude.{true, List}
use Rattle.program_places.specs.Places.{Index}
use Rattle.ruby_nodes.specs.Entries.{Entry}
use Rattle.ruby_types.specs.declared.tree.ConstRef.{ConstRef}
use Rattle.ruby_runs.specs.Doing.{Meaning}
use Rattle.ruby_machine_names.specs.Names.{begun}
use Rattle.ruby_machine_names.specs.Steps.{here_of}
use Rattle.ruby_machine_frames.specs.declared.stack.Core.{Core}
use Rattle.ruby_machine_frames.specs.Rest.{const_from}

-- a constant, the turn of whose first name is begun
abbrev pub name_left : Index → List Entry → ConstRef → Core → Meaning
name_left index known constant m =
    const_from index known m (begun index (here_of m.here) true constant.top constant.path)
