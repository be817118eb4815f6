use Rattle.std.proofs.Common.{rules, ltb, leb, take, drop, length, ◌-◌}
use Rattle.std.proofs.lemmas.Fn.{always_returns_same}
use Rattle.std.proofs.lemmas.List.{take_rest}
use Rattle.std.proofs.lemmas.List.Sorted.{IsPartitionedBy-ltb, IsPartitionedBy-leb, IsNonDecreasingBy-drop}
use Rattle.app_config.proofs.IndexLaws.{IsGroup-parts}
use Rattle.app_config.proofs.starred.with_slashes.Goals as goal

-- the closures compare a pattern's number of slashes with the one that is sought
pub returns : goal.returns
returns c =
    let all = c.args.starred.now in
    let start = c.partition_point-start in
    let count = c.partition_point-count in
    let rest = take_rest all start.result in
    IsGroup-parts c.args.wanted all (take (length all - start.result) (drop start.result all)) start.result
    count.result rest
    (start.ensures.partitioned (λ one. ltb one.slashes c.args.wanted)
    (always_returns_same _ _ _ (λ a r g called. (search rules, search rules)))
    (IsPartitionedBy-ltb (λ one. one.slashes) all c.args.wanted c.requires.sorted))
    (count.ensures.partitioned (λ one. leb one.slashes c.args.wanted)
    (always_returns_same _ _ _ (λ a r g called. (search rules, search rules)))
    (IsPartitionedBy-leb (λ one. one.slashes) (take (length all - start.result) (drop start.result all)) c.args.wanted
    (rw rest (IsNonDecreasingBy-drop (λ one. one.slashes) start.result all c.requires.sorted))))
