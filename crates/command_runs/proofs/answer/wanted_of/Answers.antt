use Rattle.std.proofs.Common.{subst}
use Rattle.command_words.specs.Command.{Spells}
use Rattle.command_words.specs.declared.words.Command.{Command}
use Rattle.command_runs.proofs.Words.{replay_is_later, demo_is_later, serve_is_later}
use Rattle.command_runs.proofs.Written.{known_later}
use Rattle.command_runs.proofs.answer.wanted_of.Goals as goal

pub returns-in_ok-not_built-in-Replay : goal.returns-in_ok-not_built-in-Replay
returns-in_ok-not_built-in-Replay c = λ words spells.
    (let P : Command → Type 0 = λ k. Spells k words in
    known_later words _ _ (replay_is_later words (subst P c.in-Replay.is spells))
    c.in_ok-not_built-in-Replay.ensures)

pub returns-in_ok-not_built-in-Demo : goal.returns-in_ok-not_built-in-Demo
returns-in_ok-not_built-in-Demo c = λ words spells.
    (let P : Command → Type 0 = λ k. Spells k words in
    known_later words _ _ (demo_is_later _ words (subst P c.in-Demo.is spells)) c.in_ok-not_built-in-Demo.ensures)

pub returns-in_ok-not_built-in-Serve : goal.returns-in_ok-not_built-in-Serve
returns-in_ok-not_built-in-Serve c = λ words spells.
    (let P : Command → Type 0 = λ k. Spells k words in
    known_later words _ _ (serve_is_later c.in-Serve.address _ _ words (subst P c.in-Serve.is spells))
    c.in_ok-not_built-in-Serve.ensures)
