use Rattle.std.proofs.Common.{◌≡◌, ◌↔◌, inl, inr, IsTrue, List, All, sym, subst, ap}
use Rattle.outside.specs.Watched.{IsWatched}
use Rattle.outside.specs.Table.{without_file, HasPath}
use Rattle.outside.specs.Glance.{IsNumbered}
use Rattle.outside.specs.declared.files.FileEntry.{FileEntry}
use Rattle.outside.specs.Order.{Rising}
use Rattle.outside.specs.Tree.{IsSized, paths_of}
use Rattle.outside.proofs.TableLaws.{without_rises}
use Rattle.outside.proofs.TreeLaws.{without_all, without_watched, numbered-without}
use Rattle.outside.proofs.mem_tree.MemTree.remove.Goals as goal

pub invariant_of-self : goal.invariant_of-self
invariant_of-self c =
    let path = c.as_bytes.result.now in
    let is : c.remove-was_watched.new.self ≡ without_file c.as_bytes.result.now c.self.inside.watched =
    c.remove-was_watched.ensures.removed in (
      subst (λ (fs : List FileEntry). All (λ f. IsWatched f.path) fs) (sym is)
          (without_watched c.as_bytes.result.now c.self.inside.watched c.self.invariant.0),
      tt,
      subst (λ (fs : List FileEntry). IsNumbered fs c.self.inside.given.items c.self.inside.writes) (sym is)
          (numbered-without c.as_bytes.result.now c.self.inside.watched c.self.inside.given.items
          c.self.inside.writes c.self.invariant.2),
      subst (λ (fs : List FileEntry). Rising (paths_of fs)) (sym is)
          (without_rises c.self.inside.watched c.as_bytes.result.now c.self.invariant.3),
      subst (λ (fs : List FileEntry). All IsSized fs) (sym is)
          (without_all IsSized c.as_bytes.result.now c.self.inside.watched c.self.invariant.4),
    )

pub returns-clause-found : goal.returns-clause-found
returns-clause-found c =
    let held : c.self.inside.watched ≡ c.args.self.now.held = ap (λ t. t.held) c.self.view_is in
    let others : c.self.inside.others ≡ c.args.self.now.others = ap (λ t. t.others) c.self.view_is in
    let watched : IsTrue c.remove-was_watched.result ↔ HasPath c.args.self.now.held c.args.path.now =
    rw (c.as_bytes.ensures.value, held) at c.remove-was_watched.ensures.found in
    let other : IsTrue c.remove-was_other.result ↔ HasPath c.args.self.now.others c.args.path.now =
    rw (c.as_bytes-2.ensures.value, others) at c.remove-was_other.ensures.found in (
      λ yes. elim (c.is_either.ensures.0 yes) [ inl a ↦ inl (watched.0 a) | inr b ↦ inr (other.0 b) ],
      λ has. c.is_either.ensures.1 (elim has [ inl a ↦ inl (watched.1 a) | inr b ↦ inr (other.1 b) ]),
    )
