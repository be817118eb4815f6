use Rattle.std.proofs.Common.{◌≡◌, ◌<◌, ◌+◌, ◌∙◌, ℕ, suc, ap, sym, arith, drop, get_or, length}
use Rattle.std.proofs.lemmas.List.{drop_more}
use Rattle.http_front_head.specs.Lines.{feeds, lines_end}
use Rattle.http_front_head.proofs.ManyLines.{lines_end_feed, lines_end_other, feeds_feed, feeds_other}
use Rattle.http_front_head.proofs.scan.line_end.Goals.{then-bytes-at-eq10, else-bytes-at-eq10}
use Rattle.http_front_head.proofs.scan.line_end.Goals as goal

pub loop-left-preserved : goal.loop-left-preserved
loop-left-preserved c =
    let bytes = c.args.bytes.now in
    let at = c.loop-left.at in
    let left = c.loop-left.left in
    let byte = get_or bytes at 0 in
    let some : left ≡ 0 → ⊥ = λ e. omega (arith, e, c.loop-left-test.true) in
    let there : at < length bytes = omega (arith, c.if-at-bytes.false) in
    let split = drop_more bytes at 0 there in
    let line : lines_end left (drop at bytes) ≡ suc (lines_end c.if-bytes-at-eq10.left (drop (at + 1) bytes)) =
    elim c.if-bytes-at-eq10.branch [
      | then-bytes-at-eq10 w ↦ ap (lines_end left) split
          ∙ lines_end_feed left c.if-bytes-at-eq10.left byte (drop (at + 1) bytes) some w.if-bytes-at-eq10.true
          w.left-is
      | else-bytes-at-eq10 w ↦ ap (lines_end left) split
          ∙ lines_end_other left byte (drop (at + 1) bytes) some w.if-bytes-at-eq10.false
          ∙ ap (λ (n : ℕ). suc (lines_end n (drop (at + 1) bytes))) (sym w.left-is)
    ] in
    let count : feeds (drop at bytes) + c.if-bytes-at-eq10.left ≡ feeds (drop (at + 1) bytes) + left =
    elim c.if-bytes-at-eq10.branch [
      | then-bytes-at-eq10 w ↦ (let one =
          ap feeds split ∙ feeds_feed byte (drop (at + 1) bytes) w.if-bytes-at-eq10.true in
          omega (arith, one, w.left-is, c.loop-left-test.true))
      | else-bytes-at-eq10 w ↦ (let none =
          ap feeds split ∙ feeds_other byte (drop (at + 1) bytes) w.if-bytes-at-eq10.false in
          omega (arith, none, w.left-is))
    ] in
    record {
      within = omega (arith, there);
      place = omega (arith, c.loop-left.invariant.place, line);
      count = omega (arith, c.loop-left.invariant.count, count);
    }
