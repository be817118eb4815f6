use Rattle.app_config.proofs.PlaceLaws.{IsLastPlace-insert}
use Rattle.app_config.proofs.inflections.last_places.Goals as goal

pub pairs-preserved : goal.pairs-preserved
pairs-preserved c =
    IsLastPlace-insert c.pairs.place c.args.pairs.now c.index-pairs-place.result c.as_bytes.result.now
    c.pairs.places c.insert.new.self c.pairs-test.true c.index-pairs-place.is c.as_bytes.ensures
    c.in_ok-insert.ensures.updates
    c.pairs.invariant
