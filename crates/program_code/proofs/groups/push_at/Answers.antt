use Rattle.std.proofs.Common.{length, refl}
use Rattle.std.proofs.lemmas.Option.{slice_get_read}
use Rattle.program_code.proofs.SeenLaws.{groups_set}
use Rattle.program_code.proofs.groups.push_at.Goals as goal

pub returns : goal.returns
returns c = λ es e there.
    let gs = c.args.groups.now.items in
    let g = c.index_mut.result.now in
    groups_set es gs c.args.number c.args.place g c.push.new.self e
    (slice_get_read gs (length gs) c.args.number g refl c.requires c.index_mut.ensures.value)
    c.in_ok-push.ensures.items there
