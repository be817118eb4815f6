use Rattle.std.proofs.Common.{◌==◌, ◌+◌, ◌∷◌, ◌++◌, ap, sym, ◌∙◌, drop, take, arith}
use Rattle.std.proofs.lemmas.List.{take_rest, drop_all}
use Rattle.app_config.proofs.WordLaws.{split-cut, split-none, position-found, position-none}
use Rattle.app_config.proofs.text.cut_at.Goals as goal

pub returns-in-None-clause-parts : goal.returns-in-None-clause-parts
returns-in-None-clause-parts c =
    split-none c.args.byte c.args.text.now
    (position-none (λ b. b == c.args.byte) c.args.text.now (sym c.in-None.ensures.position))

pub returns-in-None-clause-behind : goal.returns-in-None-clause-behind
returns-in-None-clause-behind c =
    drop_all _ c.args.text.now (omega (
      arith,
      position-none (λ b. b == c.args.byte) c.args.text.now
          (sym c.in-None.ensures.position),
    ))

pub returns-in-Some-clause-whole : goal.returns-in-Some-clause-whole
returns-in-Some-clause-whole c = c.in-Some.ensures.found
    ∙ ap (λ rest. take c.in-Some.place c.args.text.now ++ c.args.byte ∷ rest)
    (sym (take_rest c.args.text.now (c.in-Some.place + 1)))

pub returns-in-Some-clause-parts : goal.returns-in-Some-clause-parts
returns-in-Some-clause-parts c =
    let found = position-found (λ b. b == c.args.byte) c.args.text.now c.in-Some.place
    (sym c.in-Some.ensures.position) in
    split-cut c.args.byte c.in-Some.place c.args.text.now found.0 found.1

pub returns-in-Some-clause-behind : goal.returns-in-Some-clause-behind
returns-in-Some-clause-behind c =
    let found = position-found (λ b. b == c.args.byte) c.args.text.now c.in-Some.place
    (sym c.in-Some.ensures.position) in
    take_rest c.args.text.now (c.in-Some.place + 1) ∙ ap (λ n. drop (n + 1) c.args.text.now) found.0
