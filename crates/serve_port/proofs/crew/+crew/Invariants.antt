use Rattle.std.specs.Prelude.{◌+◌, ◌*◌}
use Rattle.serve_port.proofs.crew.+crew.Given as goal

abbrev pub decreases-serve_all : goal.decreases-serve_all
decreases-serve_all g l = 2 * l.rows.closers.len

abbrev pub decreases-others : goal.decreases-others
decreases-others g l = 2 * l.rows.closers.len + 1
