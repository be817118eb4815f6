use Rattle.std.proofs.Common.{◌≡◌, ◌+◌, ℕ, List, All, ◌∙◌, ap, sym, subst}
use Rattle.outside.specs.Watched.{IsWatched}
use Rattle.outside.specs.Table.{with_file}
use Rattle.outside.specs.Glance.{IsNumbered}
use Rattle.outside.specs.declared.files.FileEntry.{FileEntry}
use Rattle.outside.specs.Order.{Rising}
use Rattle.outside.specs.Tree.{IsSized, paths_of}
use Rattle.outside.proofs.TableLaws.{with_rises}
use Rattle.outside.proofs.TreeLaws.{with_all, numbered-with}
use Rattle.outside.proofs.mem_tree.MemTree.put_watched.Goals as goal

pub invariant_of-self-2 : goal.invariant_of-self-2
invariant_of-self-2 c =
    let next : c.args.file.stamp.time ≡ c.self.inside.writes + 1 = c.requires.next
    ∙ sym (ap (λ t. t.writes + 1) c.self.view_is) in
    let is : c.put.new.self ≡ with_file c.args.file c.self.inside.watched = c.in_ok-put.ensures.ok in
    let numbered : IsNumbered (with_file c.args.file c.self.inside.watched) c.self.inside.given.items
    c.args.file.stamp.time =
    subst (λ (n : ℕ). IsNumbered (with_file c.args.file c.self.inside.watched) c.self.inside.given.items n) (sym next)
    (numbered-with c.args.file c.self.inside.watched c.self.inside.given.items c.self.inside.writes next
    c.self.invariant.2) in (
      subst (λ (fs : List FileEntry). All (λ f. IsWatched f.path) fs) (sym is)
          (with_all (λ f. IsWatched f.path) c.args.file c.self.inside.watched c.requires.watched c.self.invariant.0),
      tt,
      subst (λ (fs : List FileEntry). IsNumbered fs c.self.inside.given.items c.args.file.stamp.time) (sym is) numbered,
      subst (λ (fs : List FileEntry). Rising (paths_of fs)) (sym is)
          (with_rises c.self.inside.watched c.args.file c.self.invariant.3),
      subst (λ (fs : List FileEntry). All IsSized fs) (sym is)
          (with_all IsSized c.args.file c.self.inside.watched c.requires.sized c.self.invariant.4),
    )
