use Rattle.std.proofs.Common.{subst, sym}
use Rattle.ruby_grammar.specs.Words.{words_of}
use Rattle.ruby_parse.specs.Answers.{IsFaultOf}
use Rattle.ruby_parse.specs.Stops.{GivesTree}
use Rattle.ruby_parse.proofs.Stopping.{lexer_alone}
use Rattle.ruby_parse.proofs.file.first_fault.Goals as goal

pub returns-in-Ok : goal.returns-in-Ok
returns-in-Ok c = λ bytes tokens l g. subst (IsFaultOf bytes) (sym c.of_lexer.ensures)
    (lexer_alone bytes tokens c.args.lexical.kind c.args.lexical.at c.in-Ok._tree l
    (subst (GivesTree (words_of bytes tokens) c.args.lexical.at) c.in-Ok.is g))

pub returns-in-Err : goal.returns-in-Err
returns-in-Err c = λ bytes tokens l g. c.earlier.ensures bytes tokens l
    (subst (GivesTree (words_of bytes tokens) c.args.lexical.at) c.in-Err.is g)
