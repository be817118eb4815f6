use Rattle.std.proofs.Common.{◌≤◌, ◌-◌, sym, ap, ◌∙◌, subst}
use Rattle.load_sections.specs.Theories.{IsOfTheory}
use Rattle.shop_base.specs.declared.row.PassRow.{PassRow}
use Rattle.shop_base.specs.Rows.{with_room, running_seat}
use Rattle.shop_base.specs.Passes.{moved}
use Rattle.shop.proofs.Turns.{if_ok_map}
use Rattle.pass_loads.proofs.Whole.{section_left, failed_told, some_map}
use Rattle.pass_loads.proofs.loading.run_section.Goals as goal

pub define_all-ended-requires-clause-theory : goal.define_all-ended-requires-clause-theory
define_all-ended-requires-clause-theory g c =
    subst (λ p. IsOfTheory g.M.Matter.facts p (g.M.Theory.Theory.rules c.theory.result.now)) (sym c.requires.program)
    (subst (λ t. IsOfTheory g.M.Matter.facts c.args.program.now (g.M.Theory.Theory.rules t)) (sym c.theory.ensures)
    (g.met.M.Loads.theory_fits c.args.program.now))

pub close_section-requires-clause-own : goal.close_section-requires-clause-own
close_section-requires-clause-own g c = ap (λ x. x.shop) c.define_all-ended.ensures.defines.same ∙ c.requires.own

pub close_section-requires-clause-loads : goal.close_section-requires-clause-loads
close_section-requires-clause-loads g c = c.define_all-ended.ensures.loads.loads

pub close_section-requires-clause-room : goal.close_section-requires-clause-room
close_section-requires-clause-room g c =
    subst (λ (r : PassRow). 4 ≤ r.entries) (sym (ap (λ x. x.row) c.define_all-ended.ensures.defines.same))
    c.requires.room

pub returns-in_err-ended-clause-same : goal.returns-in_err-ended-clause-same
returns-in_err-ended-clause-same g c =
    let last = c.close_section.new.pass in
    c.close_section.ensures.same ∙ ap (λ x. moved x last.row last.seen) c.define_all-ended.ensures.defines.same

pub returns-in_err-ended-clause-row : goal.returns-in_err-ended-clause-row
returns-in_err-ended-clause-row g c = λ begun opened at.
    let row = ap (λ x. x.row) c.define_all-ended.ensures.defines.same in
    c.close_section.ensures.row begun opened (ap (λ r. r.seat) row ∙ at)
    ∙ ap (λ r. with_room (running_seat begun) (r.entries - 2) r.values) row

pub returns-in_err-ended-clause-acts : goal.returns-in_err-ended-clause-acts
returns-in_err-ended-clause-acts g c =
    section_left g.M.Matter.facts c.args.pass.now c.define_all-ended.new.pass c.close_section.new.pass
    c.close_section.ensures.acts.0 c.define_all-ended.ensures.defines c.close_section.ensures.acts.1.0
    c.close_section.ensures.acts.1.1

pub returns-clause-same : goal.returns-clause-same
returns-clause-same g c =
    let last = c.close_section.new.pass in
    c.close_section.ensures.same ∙ ap (λ x. moved x last.row last.seen) c.define_all-ended.ensures.defines.same

pub returns-clause-row : goal.returns-clause-row
returns-clause-row g c = λ begun opened at.
    let row = ap (λ x. x.row) c.define_all-ended.ensures.defines.same in
    c.close_section.ensures.row begun opened (ap (λ r. r.seat) row ∙ at)
    ∙ ap (λ r. with_room (running_seat begun) (r.entries - 2) r.values) row

pub returns-clause-acts : goal.returns-clause-acts
returns-clause-acts g c =
    section_left g.M.Matter.facts c.args.pass.now c.define_all-ended.new.pass c.close_section.new.pass
    c.close_section.ensures.acts.0 c.define_all-ended.ensures.defines c.close_section.ensures.acts.1.0
    c.close_section.ensures.acts.1.1

pub returns-clause-failed : goal.returns-clause-failed
returns-clause-failed g c =
    let begun = c.requires.loads.loads.0 in
    let opened = c.requires.loads.loads.1.0 in
    let row = ap (λ x. x.row) c.define_all-ended.ensures.defines.same in
    let loading = ap (λ r. r.seat) row ∙ c.requires.loads.loads.1.1 in
    let runs = ap (λ r. r.seat) (c.close_section.ensures.row begun opened loading) in
    if_ok_map c.unknown.result _ _ (λ o. some_map o _ _ (λ e told.
    failed_told g.M.Matter.facts g.met.M.Matter.same_is_equal g.M.Requests.talks
    (g.M.Theory.Theory.rules c.theory.result.now) g.M.Loads.reason c.args.program.now c.args.task e
    c.args.pass.now c.define_all-ended.new.pass c.close_section.new.pass begun opened c.define_all-ended.ensures.pass
    c.close_section.ensures.pass c.define_all-ended.ensures.defines c.requires.program c.close_section.ensures.same
    loading runs c.close_section.ensures.acts.0 c.close_section.ensures.acts.1.1
    (rw c.theory.ensures (g.met.M.Loads.blame_is_reason c.args.program.now c.args.task)) c.in_ok-ended.field-0 told.0
    c.in_ok-ended.ensures.failed told.1.0 told.1.1)) c.unknown.ensures
