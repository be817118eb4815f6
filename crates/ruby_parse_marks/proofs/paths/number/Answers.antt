use Rattle.std.proofs.Common.{refl, sym, inl, inr, ◌∙◌, rules}
use Rattle.indexmap.proofs.CallerLemmas.{insert_entry-new}
use Rattle.ruby_parse_marks.specs.declared.paths.Inner.{Inner}
use Rattle.ruby_parse_marks.specs.Paths.{same_inner}
use Rattle.ruby_parse_marks.proofs.paths.number.Goals as goal

pub returns-in-Some-clause-ok : goal.returns-in-Some-clause-ok
returns-in-Some-clause-ok c = (
  record { outer = c.args.outer; name = c.in_ok-from_slice.field-0 },
  refl,
  c.in_ok-from_slice.ensures.items,
  inl (sym c.in-Some.ensures.value, refl),
)

pub returns-in-Ok-clause-ok : goal.returns-in-Ok-clause-ok
returns-in-Ok-clause-ok c =
    let k : Inner = record { outer = c.args.outer; name = c.in_ok-from_slice.field-0 } in
    let absent = sym c.in-None.ensures.value in (
      k,
      refl,
      c.in_ok-from_slice.ensures.items,
      inr (
        absent,
        search rules,
        c.in-Ok.ensures.entries ∙ insert_entry-new same_inner c.args.paths.now k c.in_ok-next.next absent,
      ),
    )
