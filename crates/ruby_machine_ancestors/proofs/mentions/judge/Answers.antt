use Rattle.std.proofs.Common.{◌∙◌, sym}
use Rattle.ruby_machine_names.specs.Names.{found_of}
use Rattle.ruby_machine_ancestors.proofs.Going.{include_goes, include_refused, parent_goes, parent_refused}
use Rattle.ruby_machine_ancestors.proofs.mentions.judge.Goals as goal

pub returns-then-is_class : goal.returns-then-is_class
returns-then-is_class g c =
    parent_goes (g.P.Lookups.index c.args.program.now) c.args.file.now c.args.role (found_of c.args.found)
    c.args.turns.now c.ancestors.result c.ancestors.new.turns c.in-Parent.is
    (sym c.is_class.ensures ∙ c.if-is_class.true) (c.ancestors.ensures c.args.role)

pub returns-else-is_class : goal.returns-else-is_class
returns-else-is_class g c =
    parent_refused (g.P.Lookups.index c.args.program.now) c.args.file.now c.args.role (found_of c.args.found)
    c.args.turns.now c.refuse.result c.in-Parent.is (sym c.is_class.ensures ∙ c.if-is_class.false) c.refuse.ensures

pub returns-then-is_no_module : goal.returns-then-is_no_module
returns-then-is_no_module g c =
    include_refused (g.P.Lookups.index c.args.program.now) c.args.file.now c.args.role (found_of c.args.found)
    c.args.turns.now c.refuse-then-is_no_module.result c.in-Included.is
    (sym c.is_no_module.ensures ∙ c.if-is_no_module.true) c.refuse-then-is_no_module.ensures

pub returns-else-is_no_module : goal.returns-else-is_no_module
returns-else-is_no_module g c =
    include_goes (g.P.Lookups.index c.args.program.now) c.args.file.now c.args.role (found_of c.args.found)
    c.args.turns.now c.ancestors-else-is_no_module.result c.ancestors-else-is_no_module.new.turns c.in-Included.is
    (sym c.is_no_module.ensures ∙ c.if-is_no_module.false) (c.ancestors-else-is_no_module.ensures c.args.role)
