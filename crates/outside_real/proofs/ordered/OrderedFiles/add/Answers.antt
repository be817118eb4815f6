use Rattle.std.proofs.Common.{[], ◌∷◌, arith}
use Rattle.std.proofs.lemmas.List.Elements.{All-cons, All-append}
use Rattle.outside.specs.Tree.{IsSized}
use Rattle.outside.specs.Watched.{IsWatched}
use Rattle.outside.specs.declared.files.FileEntry.{FileEntry}
use Rattle.outside_real.specs.Ordered.{IsBehindLast}
use Rattle.outside_real.proofs.OrderedLaws.{added_listed}
use Rattle.outside_real.proofs.ordered.OrderedFiles.add.Goals as goal

pub invariant_of-self-then-is_next : goal.invariant_of-self-then-is_next
invariant_of-self-then-is_next c =
    let file : FileEntry = record { path = c.args.path; bytes = c.args.bytes; stamp = c.args.stamp } in
    let watched : IsWatched c.args.path = rw c.as_bytes.ensures at (c.is_watched.ensures.0 c.if-is_watched.true) in
    let behind : IsBehindLast c.self.inside.files.items c.args.path =
    rw (c.as_slice.ensures.value, c.as_bytes-then-is_watched.ensures) at (c.is_next.ensures c.if-is_next.true) in
    rw c.in_ok-push.ensures.items (
      added_listed c.self.inside.files.items file behind c.self.invariant.0 watched,
      All-append IsSized c.self.inside.files.items (file ∷ []) c.self.invariant.1
          (All-cons IsSized file [] c.requires (λ k d h. absurd (omega (arith, h)))),
    )
