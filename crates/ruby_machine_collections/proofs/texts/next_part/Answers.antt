use Rattle.std.proofs.Common.{◌+◌, ◌++◌, refl, sym, ap, ◌∙◌, subst, arith}
use Rattle.ruby_machine_frames.specs.declared.frames.Frame.TheVariants as frame
use Rattle.ruby_machine_frames.specs.Rest.{KeptFrom, load, pushes}
use Rattle.ruby_machine_frames.proofs.Steps.{kept_along}
use Rattle.ruby_machine_collections.specs.Collecting.{parts_left, text_left}
use Rattle.ruby_machine_collections.proofs.TextParts.{plain_goes, inside_goes, parts_end}
use Rattle.ruby_machine_collections.proofs.texts.next_part.Goals as goal

pub parts-init : goal.parts-init
parts-init c = record { stays = refl; goes = λ i. refl }

pub parts-preserved : goal.parts-preserved
parts-preserved c =
    let m = c.args.core.now in
    let k = c.args.nodes.now in
    record {
      stays = c.parts.invariant.stays;
      goes = λ i. c.parts.invariant.goes i
          ∙ (plain_goes i k m c.parts.at c.in-Plain.others c.args.inside c.parts.bytes.items c.in-Plain.plain.now
          c.in-Plain.ensures.0
          ∙ ap (λ b. parts_left i k c.in-Plain.others c.args.inside b m)
          (sym (c.in_ok-extend_from_slice-in-Plain.ensures.items ∙ ap (λ b. c.parts.bytes.items ++ b)
          c.as_bytes.ensures)));
    }

pub returns-in-Inside : goal.returns-in-Inside
returns-in-Inside c i =
    let m = c.args.core.now in
    let k = c.args.nodes.now in
    kept_along i k (pushes i k m (frame.Inside c.in-Inside.others c.parts.bytes) c.in-Inside.expr)
    (parts_left i k c.args.first c.args.inside c.args.bytes.items m) (load m + 5) (load m + 9) c.push_eval.result
    c.push_eval.new.self
    (c.parts.invariant.goes i
    ∙ inside_goes i k m c.parts.at c.in-Inside.expr c.in-Inside.others c.args.inside c.parts.bytes
    c.in-Inside.ensures.0)
    (omega arith)
    (subst (λ o. KeptFrom i k (pushes i k o (frame.Inside c.in-Inside.others c.parts.bytes) c.in-Inside.expr)
    (load o + 5) c.push_eval.result c.push_eval.new.self) c.parts.invariant.stays (c.push_eval.ensures i k))

pub returns-in-End : goal.returns-in-End
returns-in-End c i =
    let m = c.args.core.now in
    let k = c.args.nodes.now in
    kept_along i k (text_left i k c.args.inside c.parts.bytes.items m)
    (parts_left i k c.args.first c.args.inside c.args.bytes.items m) (load m + 6) (load m + 9) c.end_text.result
    c.end_text.new.core
    (c.parts.invariant.goes i ∙ parts_end i k m c.parts.at c.args.inside c.parts.bytes.items c.in-End.ensures)
    (omega arith)
    (subst (λ o. KeptFrom i k (text_left i k c.args.inside c.parts.bytes.items o) (load o + 6) c.end_text.result
    c.end_text.new.core) c.parts.invariant.stays (c.end_text.ensures i k))
