use Rattle.std.proofs.Common.{◌≡◌, ◌-◌, ℕ, [], ◌∷◌, length, take, get_or, ap, sym, ◌∙◌, subst, arith}
use Rattle.std.proofs.lemmas.List.{append-nil, length-take-le}
use Rattle.tree_scan_sites.specs.Rows.{last_behind}
use Rattle.tree_scan_sites.proofs.ChildLaws.{last_here, last_elsewhere}
use Rattle.tree_scan_sites.proofs.rows.add_child.Goals as goal

pub returns-in_ok-copy-in-len1-up : goal.returns-in_ok-copy-in-len1-up
returns-in_ok-copy-in-len1-up c =
    let path = c.args.path.now in
    let last = c.last-item.result in
    let above : length (take (length path - 1) path) ≡ length path - 1 = length-take-le (length path - 1) path
    (omega arith) in
    let front : length path - 1 ≡ c.args.front = sym above ∙ c.if-above-front.true in
    let at : last ≡ get_or path c.args.front last = subst (λ (n : ℕ). last ≡ get_or path n last) front c.last-item.is in
    let made : last_behind c.args.front path ≡ c.in_ok-copy-in-len1-up.field-0 ∷ [] =
    last_here c.args.front path last (omega (arith, front, c.in-len1-up.len_at_least)) at
    ∙ ap (λ k. k ∷ []) (sym c.in_ok-copy-in-len1-up.ensures) in
    rw made c.push.ensures.ok

pub returns-in_default-2 : goal.returns-in_default-2
returns-in_default-2 c =
    let path = c.args.path.now in
    let above : length (take (length path - 1) path) ≡ length path - 1 = length-take-le (length path - 1) path
    (omega arith) in
    let none : last_behind c.args.front path ≡ [] = last_elsewhere c.args.front path
    (λ e. c.if-above-front.false (omega (arith, above, e))) in
    rw none (sym (append-nil c.args.names.now))
