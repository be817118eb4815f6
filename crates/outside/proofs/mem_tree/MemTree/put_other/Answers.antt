use Rattle.std.proofs.Common.{◌≡◌, ◌+◌, ◌∙◌, ap, sym}
use Rattle.outside.proofs.TreeLaws.{numbered-next}
use Rattle.outside.proofs.mem_tree.MemTree.put_other.Goals as goal

pub invariant_of-self-2 : goal.invariant_of-self-2
invariant_of-self-2 c =
    let next : c.args.file.stamp.time ≡ c.self.inside.writes + 1 = c.requires
    ∙ sym (ap (λ t. t.writes + 1) c.self.view_is) in (
      c.self.invariant.0,
      c.self.invariant.1,
      numbered-next c.self.inside.watched c.self.inside.given.items c.self.inside.writes c.args.file.stamp.time
          next c.self.invariant.2,
      c.self.invariant.3,
      c.self.invariant.4,
    )
