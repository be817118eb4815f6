use Rattle.std.proofs.Common.{◌≡◌, drop, map}
use Rattle.httparse.specs.Spans.{header_bytes}
use Rattle.http_front_head.specs.Loops.Survey.{before_lines, with_lines}
use Rattle.http_front_head.proofs.survey.survey_of.Given as goal

abbrev pub invariant-lines : goal.invariant-lines
invariant-lines l =
    with_lines (before_lines l.minor) (map (header_bytes l.bytes) l.headers)
    ≡ with_lines l.seen (map (header_bytes l.bytes) (drop l.header-index l.headers))
