use Rattle.std.proofs.Common.{◌<◌, arith}
use Rattle.share_lock.proofs.Fronts.{front_below, front_at}
use Rattle.share_lock.proofs.saved_list.SavedList.at.Goals as goal

pub offset_bounds-places-place : goal.offset_bounds-places-place
offset_bounds-places-place c =
    let below : c.args.place < c.self.inside.count = front_below _ _ _ c.self.view_is c.args.place c.requires in
    omega arith

pub bounds-places-place : goal.bounds-places-place
bounds-places-place c =
    let below : c.args.place < c.self.inside.count = front_below _ _ _ c.self.view_is c.args.place c.requires in
    omega arith

pub returns : goal.returns
returns c = front_at _ _ _ c.self.view_is c.args.place _ c.requires
