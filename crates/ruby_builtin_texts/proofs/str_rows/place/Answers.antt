use Rattle.std.proofs.Common.{refl}
use Rattle.ruby_builtin_base.proofs.RowLaws.{place_is_row, rows_are_rising}
use Rattle.ruby_builtin_base.specs.Rows.{numbered}
use Rattle.ruby_builtin_texts.specs.StrRows.{str_rows}
use Rattle.ruby_builtin_texts.proofs.str_rows.place.Goals as goal

pub find_in-requires : goal.find_in-requires
find_in-requires c = rows_are_rising (numbered 0 str_rows) refl

pub returns : goal.returns
returns c = place_is_row str_rows c.args.name.now c.find_in.result (rows_are_rising (numbered 0 str_rows) refl)
    c.find_in.ensures.found c.find_in.ensures.none
