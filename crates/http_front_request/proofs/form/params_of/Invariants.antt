use Rattle.std.proofs.Common.{◌≡◌, ◌++◌, map}
use Rattle.http_front_request.specs.Pairs.{entry_bytes}
use Rattle.http_front_request.specs.Request.{params_of, param}
use Rattle.http_front_request.proofs.form.params_of.Given as goal

abbrev pub invariant-entries : goal.invariant-entries
invariant-entries l = l.params.items ++ map param (map entry_bytes l.name-iterator) ≡ params_of l.form
