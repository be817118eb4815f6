use Rattle.head_promises.proofs.Courses.{replied_course}
use Rattle.head_promises.proofs.laws.replied_heads_have_a_course.Goals as goal

pub returns : goal.returns
returns g c = replied_course g.M.Matter.facts
