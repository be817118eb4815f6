use Rattle.std.proofs.Common.{◌≡◌, length}
use Rattle.ruby_machine_ancestors.specs.Ancestors.{goes_on}
use Rattle.ruby_machine_ancestors.proofs.run.each_include.Given as goal

abbrev pub invariant-includes : goal.invariant-includes
invariant-includes g l = record {
  same : goes_on (g.P.Lookups.index l.program) l.fn.run ≡ goes_on (g.P.Lookups.index l.program) l.run;
  path : l.run.path ≡ l.fn.run.path;
  count : length l.run.includes ≡ l.at;
}
