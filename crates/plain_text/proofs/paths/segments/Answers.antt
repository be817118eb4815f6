use Rattle.std.proofs.Common.{◌≡◌, ◌∙◌, sym, arith}
use Rattle.plain_text.specs.Segments as spec
use Rattle.plain_text.proofs.SegmentLaws.{are_segments, only_segments, all-copied}
use Rattle.plain_text.proofs.paths.segments.Goals as goal

pub returns-clause-segments : goal.returns-clause-segments
returns-clause-segments c =
    let cut : c.loop-piece.pieces ≡ spec.segments c.args.path.now
    = all-copied _ _ _ c.loop-piece.piece-index _ c.loop-piece.invariant (omega (arith, c.loop-piece-test.false))
    c.as_slice-piece-items.ensures.value c.in_ok-cut.ensures in
    rw cut (are_segments c.args.path.now)

pub returns-clause-only : goal.returns-clause-only
returns-clause-only c =
    let cut : c.loop-piece.pieces ≡ spec.segments c.args.path.now
    = all-copied _ _ _ c.loop-piece.piece-index _ c.loop-piece.invariant (omega (arith, c.loop-piece-test.false))
    c.as_slice-piece-items.ensures.value c.in_ok-cut.ensures in
    λ others are. only_segments c.args.path.now others are ∙ sym cut
