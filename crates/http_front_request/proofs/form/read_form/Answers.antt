use Rattle.std.proofs.Common.{◌≡◌, List, ℕ, [], map, ap, sym, ◌∙◌}
use Rattle.form_urlencoded.specs.Form.{raw_pairs}
use Rattle.form_urlencoded.specs.Parse.{owned_pairs_left}
use Rattle.http_front_request.specs.Form.{decoded_pair, form_pairs, each_once}
use Rattle.http_front_request.specs.Pairs.{given_all, entry_bytes}
use Rattle.http_front_request.proofs.Once.{next_given, given_is_each_once}
use Rattle.http_front_request.proofs.form.read_form.Goals as goal

pub pairs-init : goal.pairs-init
pairs-init c =
    let left : owned_pairs_left c.into_iter-pair-iterator.result ≡ raw_pairs c.args.form.now =
    ap owned_pairs_left c.into_iter-pair-iterator.ensures.into_iter_gives
    ∙ c.into_owned-pair-items.ensures ∙ c.parse.ensures.value in
    ap (λ es. given_all (map entry_bytes es) (map decoded_pair (owned_pairs_left c.into_iter-pair-iterator.result)))
    c.new-read.ensures.empty
    ∙ ap (λ (ps : List (List ℕ × List ℕ)). given_all [] (map decoded_pair ps)) left
    ∙ given_is_each_once _

pub pairs-preserved : goal.pairs-preserved
pairs-preserved c =
    let steps = c.in-Some.ensures.steps in
    ap (λ es. given_all es (map decoded_pair (owned_pairs_left c.next.new.self))) c.in_ok-give.ensures
    ∙ next_given (each_once (form_pairs c.args.form.now)) (map entry_bytes c.pairs.read.entries)
    (owned_pairs_left c.pairs.pair-iterator) (owned_pairs_left c.next.new.self) steps.0 steps.1 c.in-Some.pair
    (c.in_ok-name.name, c.in_ok-name.value) steps.2 c.in_ok-name.was steps.3 c.pairs.invariant

pub returns : goal.returns
returns c = ap (λ (ps : List (List ℕ × List ℕ)). given_all (map entry_bytes c.pairs.read.entries) (map decoded_pair ps))
    (sym c.in-None.ensures.steps) ∙ c.pairs.invariant
