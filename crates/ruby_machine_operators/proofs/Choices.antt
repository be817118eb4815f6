-- What operators do with their first operand.
use Rattle.std.proofs.Common.{◌≡◌, ℕ, ◌+◌, true, false, List, sym, ap, arith}
use Rattle.std.specs.Prelude.{Ok, not, if◌then◌else◌}
use Rattle.program_places.specs.Places.{Index}
use Rattle.ruby_nodes.specs.Entries.{Entry}
use Rattle.ruby_types.specs.declared.value.Value.{Value}
use Rattle.ruby_runs.specs.Doing.{pure}
use Rattle.ruby_runs.specs.BuiltIns.{is_truthy}
use Rattle.ruby_runs.specs.Bodies.{GoesOn, boolean}
use Rattle.ruby_machine_names.specs.Steps.{here_of}
use Rattle.ruby_machine_state.specs.States.{state_of}
use Rattle.ruby_machine_frames.specs.declared.frames.Frame.TheVariants as frame
use Rattle.ruby_machine_frames.specs.declared.frames.Control.TheVariants as control
use Rattle.ruby_machine_frames.specs.declared.stack.Core.{Core}
use Rattle.ruby_machine_frames.specs.Rest.{KeptFrom, evals, frame_meaning, gives_of, load}

module _ (index : Index) (known : List Entry) (m : Core) (v : Value) where
  -- `!` gives whether its operand is false
  pub not_kept : (b : Value) → b ≡ boolean (not (is_truthy v)) →
      KeptFrom index known (frame_meaning index known m frame.Not (GoesOn (state_of m.state) v)) (load m + 9)
      (Ok (control.Gives b)) m
  not_kept b is = (ap (λ x. gives_of index known m x m.turns) (sym is), omega arith)

  -- `&&` goes on with its right side
  pub and_goes : (b : ℕ) → is_truthy v ≡ true →
      KeptFrom index known (frame_meaning index known m (frame.And b) (GoesOn (state_of m.state) v)) (load m + 9)
      (Ok (control.Eval b)) m
  and_goes b is = (
    ap (λ t. (if t then evals index known m.left (here_of m.here) b (state_of m.state) else pure v) m.turns
        (gives_of index known m)) is,
    omega arith,
  )

  -- or it ends
  pub and_ends : (b : ℕ) → is_truthy v ≡ false →
      KeptFrom index known (frame_meaning index known m (frame.And b) (GoesOn (state_of m.state) v)) (load m + 9)
      (Ok (control.Gives v)) m
  and_ends b is = (
    ap (λ t. (if t then evals index known m.left (here_of m.here) b (state_of m.state) else pure v) m.turns
        (gives_of index known m)) is,
    omega arith,
  )

  -- `||` ends
  pub or_ends : (b : ℕ) → is_truthy v ≡ true →
      KeptFrom index known (frame_meaning index known m (frame.Or b) (GoesOn (state_of m.state) v)) (load m + 9)
      (Ok (control.Gives v)) m
  or_ends b is = (
    ap (λ t. (if t then pure v else evals index known m.left (here_of m.here) b (state_of m.state)) m.turns
        (gives_of index known m)) is,
    omega arith,
  )

  -- or goes on with its right side
  pub or_goes : (b : ℕ) → is_truthy v ≡ false →
      KeptFrom index known (frame_meaning index known m (frame.Or b) (GoesOn (state_of m.state) v)) (load m + 9)
      (Ok (control.Eval b)) m
  or_goes b is = (
    ap (λ t. (if t then pure v else evals index known m.left (here_of m.here) b (state_of m.state)) m.turns
        (gives_of index known m)) is,
    omega arith,
  )

  -- `? :` takes the first branch
  pub choose_first : (a b : ℕ) → is_truthy v ≡ true →
      KeptFrom index known (frame_meaning index known m (frame.Choose a b) (GoesOn (state_of m.state) v)) (load m + 9)
      (Ok (control.Eval a)) m
  choose_first a b is = (
    ap (λ t. (if t then evals index known m.left (here_of m.here) a (state_of m.state) else evals index known m.left
        (here_of m.here) b (state_of m.state)) m.turns (gives_of index known m)) is,
    omega arith,
  )

  -- or the second
  pub choose_second : (a b : ℕ) → is_truthy v ≡ false →
      KeptFrom index known (frame_meaning index known m (frame.Choose a b) (GoesOn (state_of m.state) v)) (load m + 9)
      (Ok (control.Eval b)) m
  choose_second a b is = (
    ap (λ t. (if t then evals index known m.left (here_of m.here) a (state_of m.state) else evals index known m.left
        (here_of m.here) b (state_of m.state)) m.turns (gives_of index known m)) is,
    omega arith,
  )
