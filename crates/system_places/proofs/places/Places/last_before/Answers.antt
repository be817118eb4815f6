use Rattle.system_places.proofs.Fields.{link_told}
use Rattle.system_places.proofs.places.Places.last_before.Goals as goal

pub returns : goal.returns
returns c =
    link_told c.self.inside.heads.items c.self.inside.links.items _ c.args.place c.index.result.now _ c.self.view_is
    c.self.invariant
    c.requires c.index.ensures
