use Rattle.std.proofs.Common.{◌-◌, ◌∙◌, sym, length, arith, refl}
use Rattle.ruby_token.proofs.ReadingLaws.{along_gap, along_token, along_big, along_stuck, whole, put_none, room}
use Rattle.ruby_token.specs.Reading.{outcome_of}
use Rattle.ruby_token.proofs.lexer.lex_front.Goals as goal

pub lexemes-init : goal.lexemes-init
unfolding outcome_of
lexemes-init c = record {
  within = omega arith;
  brackets = rw c.new-state.ensures (omega arith);
  reads = rw (c.new-state.ensures, c.new-tokens.ensures) (put_none _);
}

pub lexemes-preserved-in-Gap : goal.lexemes-preserved-in-Gap
lexemes-preserved-in-Gap c = record {
  within = room c.lexemes.at _ c.args.front.now c.in-Gap.ensures.within.1 c.lexemes.invariant.within;
  brackets = rw c.pass.ensures (omega arith);
  reads = along_gap c.args.is_whole _ _ _ _ _ _ _ _ c.in-Gap.ensures.exact
      (whole c.lexemes.at (length c.args.front.now - c.lexemes.at) c.args.front.now refl) c.in-Gap.ensures.within.0
      c.lexemes-test.true c.pass.ensures c.lexemes.invariant.reads;
}

pub returns-then-is_big : goal.returns-then-is_big
returns-then-is_big c = along_big c.args.is_whole _ _ _ _ _ _ _ _ c.in-Token.ensures.exact
    (whole c.lexemes.at (length c.args.front.now - c.lexemes.at) c.args.front.now refl) c.lexemes-test.true
    (sym c.is_big.ensures ∙ c.if-is_big.true) c.lexemes.invariant.reads

pub lexemes-preserved : goal.lexemes-preserved
lexemes-preserved c = record {
  within = room c.lexemes.at _ c.args.front.now c.in-Token.ensures.within.1 c.lexemes.invariant.within;
  brackets = omega (arith, c.take.ensures.within, c.in-Token.ensures.within.0, c.lexemes.invariant.brackets);
  reads = along_token c.args.is_whole _ _ _ _ _ _ _ _ _ _ c.in-Token.ensures.exact
      (whole c.lexemes.at (length c.args.front.now - c.lexemes.at) c.args.front.now refl) c.in-Token.ensures.within.0
      c.lexemes-test.true (sym c.is_big.ensures ∙ c.if-is_big.false) c.in_ok-take-in-Token.ensures.exact
      c.in_ok-push-in-Token.ensures.ok c.lexemes.invariant.reads;
}

pub returns-in-Nothing : goal.returns-in-Nothing
returns-in-Nothing c = along_stuck c.args.is_whole _ _ _ _ _ _ _ c.in-Nothing.ensures.exact
    (whole c.lexemes.at (length c.args.front.now - c.lexemes.at) c.args.front.now refl) c.lexemes-test.true
    c.stuck_fault-fault.ensures c.lexemes.invariant.reads
