use Rattle.std.proofs.Common.{◌≡◌, ◌++◌, ◌∷◌, [], ap, sym, ◌∙◌, subst}
use Rattle.ruby_machine_names.specs.Names as names
use Rattle.ruby_machine_names.specs.Steps.{Ends, Settles, here_of}
use Rattle.ruby_machine_names.proofs.search.fallback.Goals as goal

pub returns-in-Within : goal.returns-in-Within
returns-in-Within g c =
    subst (λ o. Ends (names.fallback (g.P.Lookups.index c.args.program.now) (here_of c.args.here.now) o c.args.name.now)
    c.uninitialized.result) (sym c.in-Within.is) (rw c.as_slice.ensures at c.uninitialized.ensures)

pub returns-in-Scopes : goal.returns-in-Scopes
returns-in-Scopes g c =
    subst (λ o. Settles (names.fallback (g.P.Lookups.index c.args.program.now) (here_of c.args.here.now) o
    c.args.name.now)
    c.at_top.result) (sym c.in-Scopes.is) (rw c.innermost.ensures at c.at_top.ensures)
