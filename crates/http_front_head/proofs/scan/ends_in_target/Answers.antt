use Rattle.std.proofs.Common.{◌≡◌, ◌∙◌, sym, ap}
use Rattle.std.proofs.lemmas.List.{drop_all}
use Rattle.http_front_head.specs.Lines.{last_stage}
use Rattle.http_front_head.specs.declared.scan.Stage.TheVariants.{Blank}
use Rattle.http_front_head.proofs.Targets.{inside_found, inside_all}
use Rattle.http_front_head.proofs.scan.ends_in_target.Goals as goal

pub returns-in-Target-clause-inside : goal.returns-in-Target-clause-inside
returns-in-Target-clause-inside c = λ t.
    inside_found c.args.bytes.now (c.loop-byte.invariant
    ∙ ap (last_stage c.loop-byte.stage) (drop_all c.loop-byte.byte-index c.args.bytes.now c.loop-byte-test.false)
    ∙ c.in-Target.is)

pub returns-in_default : goal.returns-in_default
returns-in_default c =
    let done : last_stage Blank c.args.bytes.now ≡ c.loop-byte.stage =
    c.loop-byte.invariant
    ∙ ap (last_stage c.loop-byte.stage) (drop_all c.loop-byte.byte-index c.args.bytes.now c.loop-byte-test.false) in
    record {
      inside = λ h. absurd (cc);
      past = λ h x. c.in_default.not-Target (sym done ∙ inside_all c.args.bytes.now x);
    }
