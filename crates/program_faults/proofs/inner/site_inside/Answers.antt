use Rattle.std.proofs.Common.{◌∙◌, sym}
use Rattle.program_faults.specs.Read.{used_all}
use Rattle.program_entries.specs.Seen.{seen}
use Rattle.program_faults.proofs.InnerLaws.{nothing_defined}
use Rattle.program_faults.proofs.inner.site_inside.Goals as goal

pub returns-else-is_definition : goal.returns-else-is_definition
returns-else-is_definition c = nothing_defined (used_all c.args.files.now.files.now) c.args.constant.now
    (seen c.args.entry.now) (sym c.is_definition.ensures ∙ c.if-is_definition.false)
