use Rattle.std.proofs.Common.{◌≡◌, List, Some, map, ◌∙◌, sym, subst, ap}
use Rattle.outside.specs.Tree.{AgreesOnStamps}
use Rattle.outside.specs.Glance.{given_of, IsNumbered}
use Rattle.outside.specs.declared.glance.Glance.{Glance}
use Rattle.outside.proofs.TreeLaws.{agrees, numbered-given}
use Rattle.outside.proofs.mem_tree.MemTree.keep_given.Goals as goal

pub returns-in_err-push-clause-agrees : goal.returns-in_err-push-clause-agrees
returns-in_err-push-clause-agrees c =
    subst (λ (gs : List Glance). AgreesOnStamps (Some c.self.inside.watched) (Some (map given_of gs)))
    (sym c.in_err-push.ensures.items)
    (agrees c.self.inside.watched c.self.inside.given.items c.self.inside.writes c.self.invariant.2)

pub invariant_of-self-2 : goal.invariant_of-self-2
invariant_of-self-2 c =
    let same : c.args.files ≡ c.self.inside.watched = c.requires ∙ sym (ap (λ t. t.held) c.self.view_is) in (
      c.self.invariant.0,
      c.self.invariant.1,
      subst (λ (gs : List Glance). IsNumbered c.self.inside.watched gs c.self.inside.writes)
          (sym c.in_ok-push.ensures.items)
          (numbered-given c.self.inside.watched c.self.inside.given.items
          (record { files = c.args.files; whole = c.args.whole }) c.self.inside.writes same c.self.invariant.2),
      c.self.invariant.3,
      c.self.invariant.4,
    )

pub returns-clause-agrees : goal.returns-clause-agrees
returns-clause-agrees c =
    let same : c.args.files ≡ c.self.inside.watched = c.requires ∙ sym (ap (λ t. t.held) c.self.view_is) in
    agrees c.self.inside.watched c.push.new.self.items c.self.inside.writes
    (subst (λ (gs : List Glance). IsNumbered c.self.inside.watched gs c.self.inside.writes)
    (sym c.in_ok-push.ensures.items)
    (numbered-given c.self.inside.watched c.self.inside.given.items
    (record { files = c.args.files; whole = c.args.whole }) c.self.inside.writes same c.self.invariant.2))
