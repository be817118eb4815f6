use Rattle.by_need.proofs.Rounds.{known_gives, known_takes}
use Rattle.program_application.specs.Applications.{application_of}
use Rattle.program_facts.proofs.Members.{known_is_there}
use Rattle.program_theory.proofs.Lawful.{rules_lawful}
use Rattle.program_laws.specs.Programs.{rules_in}
use Rattle.program_laws.proofs.Programs.{task_is_tested}
use Rattle.program_laws.proofs.laws.known_is_fixed.Goals as goal

pub returns : goal.returns
returns c =
    let p = c.args.program.now in
    let t = c.args.task.now in
    let laws = rules_lawful (application_of p) in
    record {
      tasks = λ is v. (
        λ h. known_gives (rules_in p) laws t v h,
        λ h. known_takes (rules_in p) laws t v (task_is_tested p t is) h,
      );
      others = λ v h. known_is_there (application_of p) t v h;
    }
