use Rattle.ruby_token.proofs.Front.{front_code, front_double, front_single}
use Rattle.ruby_token.proofs.lexeme.next_lexeme.Goals as goal

pub returns-in-None-clause-exact : goal.returns-in-None-clause-exact
returns-in-None-clause-exact c = front_code c.args.state.now c.args.bytes.now _ c.requires.some
    (cc) c.code_lexeme.ensures.exact

pub returns-in-Some-Double-clause-exact : goal.returns-in-Some-Double-clause-exact
returns-in-Some-Double-clause-exact c = front_double c.args.state.now c.args.bytes.now _ c.requires.some
    (cc) c.double_lexeme.ensures.exact

pub returns-in-Some-Single-clause-exact : goal.returns-in-Some-Single-clause-exact
returns-in-Some-Single-clause-exact c = front_single c.args.state.now c.args.bytes.now _ c.requires.some
    (cc) c.single_lexeme.ensures.exact
