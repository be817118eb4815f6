use Rattle.std.proofs.Common.{◌≡◌, None, sym, ◌∙◌}
use Rattle.std.proofs.lemmas.Result.{IfOk-weaker}
use Rattle.tree_scan_roots.specs.Keys.{number_of}
use Rattle.tree_scan_roots.specs.Roots.{named, namespace_of}
use Rattle.tree_scan_roots.proofs.KeyLaws.{no_number}
use Rattle.tree_scan_roots.proofs.RootLaws.{line_within, namespace_numbered, namespace_nowhere}
use Rattle.tree_scan_roots.proofs.building.namespace_of.Goals as goal

pub bounds-lines-number : goal.bounds-lines-number
bounds-lines-number c = line_within c.args.lines.now c.args.numbers.now c.requires c.args.directory.now
    c.in-Some.number (sym c.number_of.ensures ∙ c.in-Some.is)

pub returns-in-Some : goal.returns-in-Some
returns-in-Some c =
    let is = namespace_numbered c.args.lines.now c.args.numbers.now c.requires c.args.directory.now c.in-Some.number
    (sym c.number_of.ensures ∙ c.in-Some.is) c.index-lines-number.result in
    IfOk-weaker c.from_slice.result
    (λ names. names ≡ c.as_slice.result.now)
    (λ names. names ≡ namespace_of c.args.lines.now c.args.directory.now)
    (λ names e. e ∙ c.as_slice.ensures ∙ sym is)
    c.from_slice.ensures

pub returns-in-None : goal.returns-in-None
returns-in-None c =
    let none : number_of c.args.numbers.now c.args.directory.now ≡ None = sym c.number_of.ensures ∙ c.in-None.is in
    c.new.ensures ∙ sym (namespace_nowhere c.args.lines.now c.args.directory.now
    (no_number (named c.args.lines.now) c.args.numbers.now c.requires c.args.directory.now none))
