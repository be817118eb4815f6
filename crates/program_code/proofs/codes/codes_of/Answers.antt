use Rattle.std.proofs.Common.{◌≡◌, length, Some, slice_get, refl, ap, subst, arith}
use Rattle.std.proofs.lemmas.List.{take_all}
use Rattle.std.proofs.lemmas.Option.{slice_get_read}
use Rattle.program_used.specs.Rows.{all_used, used_at}
use Rattle.program_outcomes.specs.Outcomes.{listed}
use Rattle.program_tables.specs.Tables.{owned_from}
use Rattle.program_code.specs.Codes.{AreCodesOf}
use Rattle.program_code.proofs.RowLaws.{used_there, used_length, outcomes_length, outcome_there, codes_more}
use Rattle.program_code.proofs.codes.codes_of.Goals as goal

pub bounds-outcomes-place : goal.bounds-outcomes-place
bounds-outcomes-place c =
    let files = c.args.files.now in
    let texts = c.args.texts.now in
    let size = outcomes_length (listed (all_used files texts)) (all_used files texts) c.args.outcomes.now
    c.requires.outcomes in
    let used = used_length files texts c.requires.texts in
    omega (arith, size, used, c.places-test.true)

pub push_row-requires : goal.push_row-requires
push_row-requires c =
    let files = c.args.files.now in
    let texts = c.args.texts.now in
    let outcomes = c.args.outcomes.now in
    let us = all_used files texts in
    let k = c.places.place in
    let file = c.index-files-place.result in
    let text = c.index-texts-place.result in
    let outcome = c.index-outcomes-place.result in
    let size = outcomes_length (listed us) us outcomes c.requires.outcomes in
    let used = used_length files texts c.requires.texts in
    let at : slice_get us k ≡ Some (used_at file text) = used_there files texts k file text
    (slice_get_read files (length files) k file refl c.places-test.true c.index-files-place.is)
    (slice_get_read texts (length texts) k text refl (omega (arith, c.requires.texts, c.places-test.true))
    c.index-texts-place.is) in
    let there = slice_get_read outcomes (length outcomes) k outcome refl
    (omega (arith, size, used, c.places-test.true)) c.index-outcomes-place.is in
    (listed us, outcome_there (listed us) us outcomes k (used_at file text) outcome c.requires.outcomes at there)

pub places-preserved : goal.places-preserved
places-preserved c =
    let files = c.args.files.now in
    let texts = c.args.texts.now in
    let outcomes = c.args.outcomes.now in
    let us = all_used files texts in
    let k = c.places.place in
    let file = c.index-files-place.result in
    let text = c.index-texts-place.result in
    let outcome = c.index-outcomes-place.result in
    let size = outcomes_length (listed us) us outcomes c.requires.outcomes in
    let used = used_length files texts c.requires.texts in
    let at : slice_get us k ≡ Some (used_at file text) = used_there files texts k file text
    (slice_get_read files (length files) k file refl c.places-test.true c.index-files-place.is)
    (slice_get_read texts (length texts) k text refl (omega (arith, c.requires.texts, c.places-test.true))
    c.index-texts-place.is) in
    let there = slice_get_read outcomes (length outcomes) k outcome refl
    (omega (arith, size, used, c.places-test.true)) c.index-outcomes-place.is in
    let has = outcome_there (listed us) us outcomes k (used_at file text) outcome c.requires.outcomes at there in (
      codes_more us k (used_at file text) c.places.codes.items c.push_row.new.codes.items c.push_row.ensures.extends at
          (c.in_ok-push_row.ensures.added (listed us) has) c.places.invariant.0,
      λ e. absurd (omega (arith, ap length e, c.places-test.true)),
    )

pub returns-clause-codes : goal.returns-clause-codes
returns-clause-codes c =
    let files = c.args.files.now in
    let texts = c.args.texts.now in
    let us = all_used files texts in
    let used = used_length files texts c.requires.texts in
    subst (λ x. AreCodesOf us c.places.nodes (owned_from (listed us) 0 x) c.places.codes.items)
    (take_all c.places.place us (omega (arith, used, c.places-test.false))) c.places.invariant.0
