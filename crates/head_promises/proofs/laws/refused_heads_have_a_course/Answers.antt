use Rattle.head_promises.proofs.Courses.{refused_course}
use Rattle.head_promises.proofs.laws.refused_heads_have_a_course.Goals as goal

pub returns : goal.returns
returns g c = refused_course g.M.Matter.facts
