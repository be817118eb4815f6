use Rattle.std.proofs.Common.{◌≡◌, ◌++◌, take}
use Rattle.std.specs.List.{flat_map}
use Rattle.load_logs.specs.Logs.{text_for}
use Rattle.load_logs.proofs.logs.push_texts.Given as goal

abbrev pub invariant-lines : goal.invariant-lines
invariant-lines l = l.logs ≡ l.initial.logs ++ flat_map (text_for l.constant) (take l.line-index l.lines)
