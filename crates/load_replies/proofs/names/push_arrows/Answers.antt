use Rattle.std.proofs.Common.{◌++◌, sym, ap}
use Rattle.std.proofs.lemmas.List.{append_assoc}
use Rattle.load_replies.proofs.ArrowLaws.{arrows_behind}
use Rattle.load_replies.proofs.names.push_arrows.Goals as goal

pub returns-in_ok-push_each_arrow-in-Some : goal.returns-in_ok-push_each_arrow-in-Some
returns-in_ok-push_each_arrow-in-Some c =
    rw (
      c.in_ok-push_each_arrow-in-Some.ensures,
      c.in_ok-push_task_name-in-Some.ensures,
      c.in-Some.ensures.cases.0,
      append_assoc,
    ) (ap (λ text. c.args.written.now.items ++ text) (sym (arrows_behind c.in-Some.first.now c.in-Some.others.now)))
