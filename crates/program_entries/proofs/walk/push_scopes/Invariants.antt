use Rattle.std.proofs.Common.{◌≡◌, ◌++◌, take}
use Rattle.program_entries.proofs.walk.push_scopes.Given as goal

abbrev pub invariant-scopes : goal.invariant-scopes
invariant-scopes l = l.inner.items ≡ l.fn.inner.items ++ take l.scope-index l.scopes
