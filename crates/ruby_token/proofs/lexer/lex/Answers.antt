use Rattle.ruby_token.specs.Cut.{with_fault}
use Rattle.ruby_token.proofs.Outcomes.{found_by, only_by, spans_by}
use Rattle.ruby_token.proofs.lexer.lex.Goals as goal

pub returns-clause-found : goal.returns-clause-found
returns-clause-found c = found_by c.lex_front.result (λ l. with_fault l.tokens l.fault) c.args.bytes.now
    c.utf8_len-n.result c.utf8_len-n.ensures.exact c.lex_front.ensures

pub returns-clause-only : goal.returns-clause-only
returns-clause-only c = λ o h. only_by c.lex_front.result (λ l. with_fault l.tokens l.fault) c.args.bytes.now
    c.utf8_len-n.result o c.utf8_len-n.ensures.exact c.lex_front.ensures h

pub returns-clause-spans : goal.returns-clause-spans
returns-clause-spans c = spans_by c.lex_front.result (λ l. l.tokens) (λ l. l.fault) c.args.bytes.now
    (found_by c.lex_front.result (λ l. with_fault l.tokens l.fault) c.args.bytes.now c.utf8_len-n.result
    c.utf8_len-n.ensures.exact c.lex_front.ensures)
