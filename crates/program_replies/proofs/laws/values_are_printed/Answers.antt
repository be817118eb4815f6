use Rattle.std.proofs.Common.{refl}
use Rattle.program_replies.proofs.laws.values_are_printed.Goals as goal

pub returns : goal.returns
returns c = record {
  text = λ files controller v. refl;
  shown = λ files controller v. refl;
}
