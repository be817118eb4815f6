use Rattle.std.proofs.Common.{◌+◌, ◌∷◌, ◌==◌, ◌∙◌, ℕ, length, take, sym, ap, arith, rules}
use Rattle.std.proofs.lemmas.List.Sums.{position_or_len_is}
use Rattle.std.proofs.lemmas.List.{take_rest}
use Rattle.http_front_head.specs.Parts.{members}
use Rattle.http_front_head.proofs.Members.{members_at, members_none}
use Rattle.http_front_head.proofs.lines.split_member.Goals as goal

pub returns-in-Some-clause-member : goal.returns-in-Some-clause-member
returns-in-Some-clause-member c =
    let list = c.args.list.now in
    let place = c.in-Some.place in
    let found = position_or_len_is (λ (b : ℕ). b == 44) list place 0 (search rules) (search rules) (search rules) in
    members_at list place found (search rules)
    ∙ ap (λ t. take place list ∷ members t) (sym (take_rest list (place + 1)))

pub returns-in-None-clause-last : goal.returns-in-None-clause-last
returns-in-None-clause-last c =
    let list = c.args.list.now in
    members_none list
    (position_or_len_is (λ (b : ℕ). b == 44) list (length list) 0 (omega arith) (search rules) (search rules))
