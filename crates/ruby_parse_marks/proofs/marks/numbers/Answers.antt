use Rattle.std.proofs.Common.{sym, ap, ◌∙◌, ◌∷◌, ◌+◌, drop}
use Rattle.std.proofs.lemmas.List.{drop_more}
use Rattle.ruby_parse_marks.proofs.NotedLaws.{next_name}
use Rattle.ruby_parse_marks.proofs.marks.numbers.Goals as goal

pub names-preserved : goal.names-preserved
names-preserved c = next_name c.args.paths.now.entries c.names.paths.entries c.number.new.paths.entries c.args.outer
    c.names.inner c.in_ok-inner.inner c.args.names.now _ _ c.as_bytes.result.now
    (drop_more c.args.names.now c.names.name-index c.name-item.result c.names-test.true
    ∙ ap (λ n. n ∷ drop (c.names.name-index + 1) c.args.names.now) (sym c.name-item.is ∙ sym c.as_bytes.ensures))
    c.names.invariant
    c.in_ok-inner.ensures.ok
