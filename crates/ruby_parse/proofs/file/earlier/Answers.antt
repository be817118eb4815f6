use Rattle.std.proofs.Common.{sym, subst}
use Rattle.ruby_parse.specs.Answers.{IsFaultOf}
use Rattle.ruby_parse.proofs.Stopping.{stands_before, lexer_first}
use Rattle.ruby_parse.proofs.file.earlier.Goals as goal

pub returns-then-stop-lexical : goal.returns-then-stop-lexical
returns-then-stop-lexical c = λ bytes tokens l s. stands_before bytes tokens c.args.lexical.kind c.args.lexical.at
    c.args.stop l s c.if-stop-lexical.true

pub returns-else-stop-lexical : goal.returns-else-stop-lexical
returns-else-stop-lexical c = λ bytes tokens l s. subst (IsFaultOf bytes) (sym c.of_lexer.ensures)
    (lexer_first bytes tokens c.args.lexical.kind c.args.lexical.at c.args.stop l s c.if-stop-lexical.false)
