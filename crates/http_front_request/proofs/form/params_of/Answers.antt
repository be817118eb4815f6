use Rattle.std.proofs.Common.{◌≡◌, ◌++◌, ◌∷◌, [], IfOk, map, ap, sym, ◌∙◌, subst, append-nil}
use Rattle.http_front_request.specs.Pairs.{entry_bytes}
use Rattle.http_front_request.specs.Request.{params_of, param}
use Rattle.http_front_request.proofs.Once.{params_more}
use Rattle.http_front_request.proofs.form.params_of.Goals as goal

pub entries-init : goal.entries-init
entries-init c =
    ap (λ items. items ++ map param (map entry_bytes c.into_iter-name-iterator.result)) c.new-params.ensures.items
    ∙ ap (λ es. map param (map entry_bytes es)) c.into_iter-name-iterator.ensures.into_iter_gives.0
    ∙ ap (map param) c.in_ok-items.ensures

pub entries-preserved : goal.entries-preserved
entries-preserved c =
    ap (λ items. items ++ map param (map entry_bytes c.next.new.self)) c.in_ok-push.ensures.items
    ∙ ap (λ p. (c.entries.params.items ++ p ∷ []) ++ map param (map entry_bytes c.next.new.self)) c.in_ok-param.ensures
    ∙ params_more c.entries.params.items c.entries.name-iterator c.next.new.self (c.in-Some.name, c.in-Some.value)
    c.in-Some.ensures.steps
    ∙ c.entries.invariant

pub returns : goal.returns
returns c =
    let all : c.entries.params.items ≡ params_of c.args.form.now =
    sym (append-nil c.entries.params.items)
    ∙ sym (ap (λ es. c.entries.params.items ++ map param (map entry_bytes es)) c.in-None.ensures.steps.0)
    ∙ c.entries.invariant in
    subst (λ ps. IfOk c.from_vec.result (λ params. params ≡ ps)) all c.from_vec.ensures
