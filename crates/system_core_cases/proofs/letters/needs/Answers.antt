use Rattle.system_core_cases.specs.declared.letters.Letter.TheVariants.{A, B, C}
use Rattle.system_core_cases.proofs.Needed.{needs_itself, needs_b}
use Rattle.system_core_cases.proofs.letters.needs.Goals as goal

pub returns-in-A-A : goal.returns-in-A-A
returns-in-A-A c = λ yes_it. needs_itself _ _ A c.in-A-A.is-0 c.in-A-A.is-1

pub returns-in-B-B : goal.returns-in-B-B
returns-in-B-B c = λ yes_it. needs_itself _ _ B c.in-B-B.is-0 c.in-B-B.is-1

pub returns-in-C-C : goal.returns-in-C-C
returns-in-C-C c = λ yes_it. needs_itself _ _ C c.in-C-C.is-0 c.in-C-C.is-1

pub returns-in-C-B : goal.returns-in-C-B
returns-in-C-B c = λ yes_it. needs_b _ _ c.in-C-B.is-0 c.in-C-B.is-1
