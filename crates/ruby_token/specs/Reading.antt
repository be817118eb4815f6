-- The tokens of some bytes, as the lexer reads them.
use Rattle.std.specs.Prelude.{ℕ, zero, suc, pred, ◌+◌, Bool, List, [], ◌∷◌, if◌then◌else◌, take}
use Rattle.ruby_token.specs.declared.fault.LexKind.TheVariants as f
use Rattle.ruby_token.specs.declared.lexeme.Lexeme.TheVariants as l
use Rattle.ruby_token.specs.declared.state.State.{State}
use Rattle.ruby_token.specs.State.{start, state_past, state_after}
use Rattle.ruby_token.specs.Steps.{lexeme}
use Rattle.ruby_token.specs.Cut.{Outcome, fault, put, at_end, stuck_at, is_big}

-- From this state and place on; the second number counts the bytes that the last lexeme still has.
abbrev pub read : Bool → State → ℕ → ℕ → List ℕ → Outcome
read whole s n j [] = at_end whole s (n + j)
read whole s n (suc j) (b ∷ bs) = read whole s (n + 1) j bs
read whole s n zero (b ∷ bs) = elim (lexeme s (b ∷ bs)) [
  | l.Gap m ↦ read whole (state_past (take m (b ∷ bs)) s) (n + 1) (pred m) bs
  | l.Token kind m ↦
      if is_big kind (take m (b ∷ bs)) then fault [] f.BigNumber n
      else put (record { kind = kind; from = n; to = n + m } ∷ [])
      (read whole (state_after kind (take m (b ∷ bs)) n s) (n + 1) (pred m) bs)
  | l.Nothing ↦ stuck_at whole s n (b ∷ bs)
]

unfoldable pub outcome_of : Bool → List ℕ → Outcome
outcome_of whole front = read whole start 0 0 front
