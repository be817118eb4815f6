-- The operators and marks, the longer ones first.
use Rattle.std.specs.Prelude.{ℕ, List, [], ◌∷◌, codes}
use Rattle.ruby_token.specs.declared.token.Op.{Op}
use Rattle.ruby_token.specs.declared.token.Op.TheVariants as op

-- the texts of the operators and marks, also of those that the profile leaves out, which it refuses by name
abbrev pub operators : List (List ℕ × Op)
operators =
    (codes "<=>", op.Compare) ∷ (codes "===", op.CaseSame) ∷ (codes "...", op.OpenRange) ∷
    (codes "||=", op.OrAssign) ∷ (codes "&&=", op.AndAssign)
    ∷ (codes "::", op.Path) ∷ (codes "==", op.Same) ∷ (codes "=>", op.Arrow) ∷ (codes "&&", op.AndAlso) ∷
    (codes "||", op.OrElse)
    ∷ (codes "!=", op.Differs) ∷ (codes "<=", op.AtMost) ∷ (codes ">=", op.AtLeast) ∷ (codes "**", op.Power) ∷
    (codes "=~", op.Matches)
    ∷ (codes "!~", op.MatchesNot) ∷ (codes "&.", op.SafeDot) ∷ (codes "..", op.Range) ∷ (codes "<<", op.ShiftLeft) ∷
    (codes ">>", op.ShiftRight)
    ∷ (codes "+=", op.PlusAssign) ∷ (codes "-=", op.MinusAssign) ∷ (codes "*=", op.TimesAssign) ∷
    (codes "/=", op.DivideAssign)
    ∷ (codes "->", op.Lambda) ∷ (codes "@@", op.ClassVariable)
    ∷ (codes ".", op.Dot) ∷ (codes "(", op.OpenParen) ∷ (codes ")", op.CloseParen) ∷ (codes ",", op.Comma) ∷
    (codes "=", op.Assign)
    ∷ (codes "[", op.OpenBracket) ∷ (codes "]", op.CloseBracket) ∷ (codes "{", op.OpenBrace) ∷
    (codes "}", op.CloseBrace)
    ∷ (codes "+", op.Plus) ∷ (codes "-", op.Minus) ∷ (codes "*", op.Times) ∷ (codes "/", op.Divide) ∷
    (codes "%", op.Modulo)
    ∷ (codes "<", op.Less) ∷ (codes ">", op.More) ∷ (codes "!", op.Not) ∷ (codes "?", op.Ask) ∷
    (codes ":", op.Colon) ∷ (codes "|", op.Bar)
    ∷ (codes "&", op.BitAnd) ∷ (codes "^", op.BitXor) ∷ (codes "~", op.BitNot) ∷ (codes "$", op.GlobalVariable) ∷ []
