use Rattle.std.proofs.Common.{false, ap, arith, length-set, ◌∙◌}
use Rattle.std.proofs.lemmas.List.{length-replicate}
use Rattle.std.proofs.lemmas.Option.{slice_get_within}
use Rattle.std.specs.Prelude.{sum_by}
use Rattle.ruby_types.proofs.PairingLaws.{all_left, one_more_taken, all_taken}
use Rattle.ruby_types.proofs.pairing.without_partner.Goals as goal

pub pairs-init : goal.pairs-init
pairs-init g c = record {
  long = length-replicate g.row.ROOM false;
  sums = λ told. let e = ap (sum_by told) (all_left g.row.ROOM c.args.others.now) in omega (arith, e);
}

pub bounds-taken-other : goal.bounds-taken-other
bounds-taken-other g c =
    let e = slice_get_within c.pairs.taken c.in-Some.other false c.in-Some.ensures.free in
    omega (arith, e, c.pairs.invariant.long)

pub pairs-preserved : goal.pairs-preserved
pairs-preserved g c = record {
  long = length-set _ _ _ ∙ c.pairs.invariant.long;
  sums = λ told. one_more_taken told c.args.pairs.now c.args.others.now c.pairs.taken c.pairs.place c.in-Some.other
      c.index-pairs-place.result c.pairs-test.true c.index-pairs-place.is c.in-Some.ensures.free c.in-Some.ensures.here
      (c.pairs.invariant.sums told);
}

pub returns : goal.returns
returns g c = all_taken c.args.pairs.now c.args.others.now c.pairs.taken c.pairs.place c.requires.long
    c.pairs-test.false c.pairs.invariant.sums
