use Rattle.std.proofs.Common.{ap, ◌∙◌, subst, length}
use Rattle.ruby_token.specs.Cut.{Lexes, done, with_fault}
use Rattle.ruby_grammar.specs.Words.{words_of}
use Rattle.ruby_grammar.proofs.Fit.{fit_of}
use Rattle.ruby_parse.specs.Stops.{GivesTree, words_end}
use Rattle.ruby_parse.proofs.Stopping.{found_in, fault_in, only_in}
use Rattle.ruby_parse.proofs.file.parse.Goals as goal

pub read-read-requires : goal.read-read-requires
read-read-requires c = rw c.as_slice.ensures
    (fit_of c.args.bytes.now c.in-Ok.lexed.tokens c.in-Ok.lexed.fault c.in-Ok.ensures.found)

lexed : (c : goal.After-drop-tokens-inside) → Lexes c.args.bytes.now (done c.in-Ok.lexed.tokens)
lexed c = subst (λ e. Lexes c.args.bytes.now (with_fault c.in-Ok.lexed.tokens e)) c.in-None.is c.in-Ok.ensures.found

whole : (c : goal.After-drop-tokens-inside) →
    GivesTree (words_of c.args.bytes.now c.in-Ok.lexed.tokens) (length c.args.bytes.now) c.read-read.result
whole c =
    let at_end = subst (λ n. GivesTree (words_of c.args.bytes.now c.as_slice.result.now) n c.read-read.result)
    (c.words_end.ensures ∙ ap (words_end c.args.bytes.now) c.in-None.is) c.read-read.ensures in
    subst (λ ts. GivesTree (words_of c.args.bytes.now ts) (length c.args.bytes.now) c.read-read.result)
    c.as_slice.ensures at_end

pub returns-in-None-clause-found : goal.returns-in-None-clause-found
returns-in-None-clause-found c = found_in c.args.bytes.now c.in-Ok.lexed.tokens c.read-read.result (lexed c) (whole c)

pub returns-in-None-clause-fault : goal.returns-in-None-clause-fault
returns-in-None-clause-fault c = fault_in c.args.bytes.now c.in-Ok.lexed.tokens c.read-read.result (lexed c) (whole c)

pub returns-in-None-clause-only : goal.returns-in-None-clause-only
returns-in-None-clause-only c = only_in c.args.bytes.now c.read-read.result
    (found_in c.args.bytes.now c.in-Ok.lexed.tokens c.read-read.result (lexed c) (whole c))
    (fault_in c.args.bytes.now c.in-Ok.lexed.tokens c.read-read.result (lexed c) (whole c))
