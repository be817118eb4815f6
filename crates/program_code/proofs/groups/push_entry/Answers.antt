use Rattle.std.proofs.Common.{length, sym, ◌∙◌}
use Rattle.program_code.proofs.SeenLaws.{first_within_groups}
use Rattle.program_code.proofs.groups.push_entry.Goals as goal

pub push_at-requires : goal.push_at-requires
push_at-requires c =
    first_within_groups c.args.constant.now c.args.table.now c.in-Some.number (length c.args.groups.now.items)
    c.requires (sym c.first.ensures ∙ c.in-Some.is)
