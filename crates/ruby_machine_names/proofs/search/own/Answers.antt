use Rattle.std.proofs.Common.{◌≡◌, ◌++◌, ◌∷◌, [], ap, ◌∙◌}
use Rattle.ruby_machine_names.proofs.Going.{search_goes_on}
use Rattle.ruby_machine_names.proofs.search.own.Goals as goal

pub returns-else-branch : goal.returns-else-branch
returns-else-branch g c =
    search_goes_on (g.P.Lookups.index c.args.program.now) c.args.name.now c.args.scope.now [] c.in_ok-path.path
    (c.in_ok-path.ensures ∙ ap (λ l. l ++ c.args.name.now ∷ []) c.as_slice.ensures)
    (rw c.if-branch.false at c.in_ok-owns.ensures)
