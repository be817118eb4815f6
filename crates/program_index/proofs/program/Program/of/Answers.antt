use Rattle.std.proofs.Common.{◌∙◌, length, sym, ap}
use Rattle.program_index.proofs.ProgramLaws.{texts_length}
use Rattle.program_index.proofs.program.Program.of.Goals as goal

pub of-requires-clause-texts : goal.of-requires-clause-texts
of-requires-clause-texts c =
    ap length c.as_slice-2.ensures.value
    ∙ texts_length c.args.sited.constants.items c.args.texts.items c.requires.used
    ∙ c.requires.sited.are_constants.size ∙ sym (ap length c.as_slice.ensures)
