use Rattle.pass_history.proofs.Courses.{course_then}
use Rattle.pass_history.proofs.laws.turns_add_up.Goals as goal

pub returns : goal.returns
returns g c = course_then
