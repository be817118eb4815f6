use Rattle.std.proofs.Common.{◌≡◌, ◌++◌, Some, length, min, ◌-◌, take, drop, ap, ◌∙◌, arith, sym}
use Rattle.outside.proofs.Pieces.{left_by_piece}
use Rattle.outside_links.proofs.ReadPieces.{read_by_piece}
use Rattle.outside_links.proofs.mem_link.MemLinkLink.read.Goals as goal

pub returns-clause-bytes : goal.returns-clause-bytes
returns-clause-bytes c =
    let bytes : c.as_bytes.result.now ≡ c.self.inside.bytes = c.as_bytes.ensures in
    let copied : c.copy_from_slice.new.self
    ≡ take c.min-count.result
    (take (length c.self.inside.bytes - c.self.inside.taken) (drop c.self.inside.taken c.self.inside.bytes)) =
    rw bytes at c.copy_from_slice.ensures.after in
    let size : c.min-count.result
    ≡ min (length (take (length c.self.inside.bytes - c.self.inside.taken)
    (drop c.self.inside.taken c.self.inside.bytes))) c.min.result = rw bytes at c.min-count.ensures in
    ap Some (ap (λ s. s.left) (sym c.self.view_is)
    ∙ left_by_piece c.self.inside.bytes _ (drop c.min-count.result c.args.into.now) _ _ copied (omega arith))

pub returns-clause-told : goal.returns-clause-told
returns-clause-told c =
    let bytes : c.as_bytes.result.now ≡ c.self.inside.bytes = c.as_bytes.ensures in
    let copied : c.copy_from_slice.new.self
    ≡ take c.min-count.result
    (take (length c.self.inside.bytes - c.self.inside.taken) (drop c.self.inside.taken c.self.inside.bytes)) =
    rw bytes at c.copy_from_slice.ensures.after in
    let size : c.min-count.result
    ≡ min (length (take (length c.self.inside.bytes - c.self.inside.taken)
    (drop c.self.inside.taken c.self.inside.bytes))) c.min.result = rw bytes at c.min-count.ensures in
    let piece = take c.min-count.result
    (c.copy_from_slice.new.self ++ drop c.min-count.result c.args.into.now) in
    ap Some
    (read_by_piece c.self.inside.bytes _ (drop c.min-count.result c.args.into.now) _ _ copied (omega arith)
    ∙ ap (λ s. s.was_read ++ piece) c.self.view_is)
