use Rattle.std.proofs.Common.{◌++◌, ap, ◌∙◌}
use Rattle.plain_text.proofs.PathLaws.{names_written}
use Rattle.plain_text.proofs.paths.push_names.Goals as goal

pub returns-in_ok-push_inner-in-Some : goal.returns-in_ok-push_inner-in-Some
returns-in_ok-push_inner-in-Some c =
    names_written _ c.in-Some.outermost.now c.in-Some.inner.now _ _ _ c.in-Some.ensures.cases.0
    (c.in_ok-extend_from_slice-in-Some.ensures.items ∙ ap (λ name. c.args.written.now.items ++ name) c.as_bytes.ensures)
    c.in_ok-push_inner-in-Some.ensures
