use Rattle.std.proofs.Common.{◌≡◌, ◌++◌, Some, ap, ◌∙◌, rules}
use Rattle.std.proofs.lemmas.Bool.Decides.{Decides-eqb}
use Rattle.std.proofs.lemmas.Slice.Eq.{strip_prefix_is, strip_suffix_is}
use Rattle.load_rules.specs.Names.{first_path}
use Rattle.load_rules.proofs.names.first_name.Goals as goal

pub returns-then-is_letters-clause-found : goal.returns-then-is_letters-clause-found
returns-then-is_letters-clause-found c =
    let front = strip_prefix_is Decides-eqb c.args.path.now c.as_slice.result.now
    (Some c.in_ok-rest.rest) c.in_ok-rest.ensures.cases in
    let back = strip_suffix_is Decides-eqb c.in_ok-rest.rest.now c.as_slice-2.result.now
    (Some c.in_ok-name.name) c.in_ok-name.ensures.cases in
    let path : c.args.path.now ≡ c.as_slice.result.now ++ (c.in_ok-name.name.now ++ c.as_slice-2.result.now) = front
    ∙ ap (λ r. c.as_slice.result.now ++ r) back in
    let e : c.args.path.now ≡ first_path c.in_ok-name.name.now =
    rw (c.as_slice.ensures, c.as_slice-2.ensures) at path in
    search (rules, e)
