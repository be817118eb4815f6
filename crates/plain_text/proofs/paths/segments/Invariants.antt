use Rattle.std.proofs.Common.{◌≡◌, take, map}
use Rattle.plain_text.proofs.paths.segments.Given as goal

abbrev pub invariant-loop-piece : goal.invariant-loop-piece
invariant-loop-piece l = l.pieces ≡ map (λ piece. piece.now) (take l.piece-index l.piece-items)
