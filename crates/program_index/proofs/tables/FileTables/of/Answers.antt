use Rattle.std.proofs.Common.{◌≡◌, ◌∙◌, ◌<◌, ◌^◌, ℕ, List, Option, length, map, sym, ap, subst}
use Rattle.program_files.specs.Files.{UsedFile}
use Rattle.program_used.specs.Rows.{all_used}
use Rattle.program_outcomes.specs.declared.outcome.Outcome.{Outcome}
use Rattle.program_outcomes.specs.Outcomes.{HaveOutcomes, listed}
use Rattle.program_tables.specs.Asks.{all_asks}
use Rattle.program_tables.specs.Tables.{tables_of}
use Rattle.program_standing.specs.Tables.{Tables}
use Rattle.program_tables.proofs.AskLaws.{asks_told}
use Rattle.program_code.proofs.RowLaws.{used_length, outcomes_length}
use Rattle.program_index.proofs.ProgramLaws.{empty_used}
use Rattle.program_index.proofs.tables.FileTables.of.Goals as goal

pub standings_of-requires : goal.standings_of-requires
standings_of-requires c =
    let us = all_used c.args.files.now c.args.texts.now in
    subst (λ (n : ℕ). n < 2 ^ 32)
    (sym (ap length c.as_slice.ensures.value
    ∙ outcomes_length (listed us) us c.in_ok-outcomes.outcomes.items c.in_ok-outcomes.ensures
    ∙ used_length c.args.files.now c.args.texts.now c.requires.texts)) c.requires.small

pub asks_of-requires : goal.asks_of-requires
asks_of-requires c =
    let us = all_used c.args.files.now c.args.texts.now in
    ap length c.as_slice-3.ensures.value
    ∙ outcomes_length (listed us) us c.in_ok-outcomes.outcomes.items c.in_ok-outcomes.ensures
    ∙ used_length c.args.files.now c.args.texts.now c.requires.texts ∙ sym c.requires.texts

pub returns : goal.returns
returns c =
    let files = c.args.files.now in
    let texts = c.args.texts.now in
    let us = all_used files texts in
    let standings = c.in_ok-standings.standings in
    let told : standings ≡ tables_of us = c.in_ok-standings.ensures files c.requires.texts
    (subst (λ (os : List (Option Outcome)). HaveOutcomes (listed us) us os) (sym c.as_slice.ensures.value)
    c.in_ok-outcomes.ensures) in
    record {
      outcomes = c.in_ok-outcomes.ensures;
      none = c.new.ensures;
      standings = told;
      codes = c.in_ok-codes.ensures.codes;
      asks = c.in_ok-asks.ensures
          ∙ ap (λ (t : Tables). all_asks t.spelled texts c.as_slice-3.result.now) told
          ∙ ap (all_asks (map (λ (f : UsedFile). f.constant) (listed us)) texts) c.as_slice-3.ensures.value
          ∙ asks_told (listed us) files texts c.in_ok-outcomes.outcomes.items c.requires.texts
          c.in_ok-outcomes.ensures;
      bare = λ e. c.in_ok-codes.ensures.bare (empty_used files texts c.requires.texts e) ∙ c.new-nodes.ensures;
    }
