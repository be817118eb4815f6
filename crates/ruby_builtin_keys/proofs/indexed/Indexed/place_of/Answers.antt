use Rattle.std.proofs.Common.{Some, ap, sym, ◌∙◌, arith}
use Rattle.std.proofs.lemmas.Option.{slice_get-get_or}
use Rattle.ruby_builtin_keys.proofs.PlaceLaws.{found_by_index}
use Rattle.ruby_builtin_keys.proofs.indexed.Indexed.place_of.Goals as goal

pub returns : goal.returns
returns c =
    let indexed = c.args.self.now in
    let within = slice_get-get_or indexed.rows.items c.row_of-row.result c.index.result.now
    (omega (arith, c.row_of-row.ensures.within)) in
    let e = found_by_index indexed.rows.items indexed.pairs.items c.args.key.now c.row_of-row.result c.index.result.now
    indexed.indexed (cc) (within ∙ ap (λ row. Some row) (sym c.index.ensures)) in
    rw (c.first_place.ensures, c.as_slice.ensures.value, c.as_slice-2.ensures) e
