use Rattle.std.proofs.Common.{rules, Ok, Err, subst, sym}
use Rattle.ruby_grammar.specs.Words.{words_of}
use Rattle.ruby_parse_definition.specs.Answers.{GivesFile}
use Rattle.ruby_parse.specs.Stops.{Stopped}
use Rattle.ruby_parse.proofs.Stopping.{is_left, is_stopped}
use Rattle.ruby_parse.proofs.words.read.Goals as goal

pub returns-else-is_at_end : goal.returns-else-is_at_end
returns-else-is_at_end c =
    let ws = words_of c.args.bytes.now c.args.tokens.now in
    let here : GivesFile ws c.file.result c.file.new.cursor =
    subst (λ l. GivesFile l c.file.result c.file.new.cursor) c.new-cursor.ensures c.file.ensures.reads in
    let reads : GivesFile ws (Ok c.in-Ok.tree) c.file.new.cursor =
    subst (λ x. GivesFile ws x c.file.new.cursor) c.in-Ok.is here in
    subst (Stopped ws c.args.end) (sym c.left_over.ensures)
    (is_left ws c.args.end c.in-Ok.tree c.file.new.cursor reads (search rules))

pub returns-in-Err : goal.returns-in-Err
returns-in-Err c =
    let ws = words_of c.args.bytes.now c.args.tokens.now in
    let here : GivesFile ws c.file.result c.file.new.cursor =
    subst (λ l. GivesFile l c.file.result c.file.new.cursor) c.new-cursor.ensures c.file.ensures.reads in
    let reads : GivesFile ws (Err c.in-Err.fault) c.file.new.cursor =
    subst (λ x. GivesFile ws x c.file.new.cursor) c.in-Err.is here in
    subst (Stopped ws c.args.end) (sym c.stop.ensures) (is_stopped ws c.args.end c.file.new.cursor c.in-Err.fault reads)
