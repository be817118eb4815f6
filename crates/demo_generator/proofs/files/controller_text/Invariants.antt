use Rattle.std.proofs.Common.{◌≡◌, ◌++◌}
use Rattle.std.specs.Prelude.{codes}
use Rattle.demo_generator.specs.Files.{line, actions}
use Rattle.demo_generator.proofs.files.controller_text.Given as goal

abbrev pub invariant-loop-index : goal.invariant-loop-index
invariant-loop-index l = l.text.items ≡ line (codes "class DemoController") ++ actions l.index
