use Rattle.std.proofs.lemmas.List.{append_assoc}
use Rattle.load_replies.proofs.names.push_task_name.Goals as goal

pub returns-in_ok-push_path-in-Ancestors : goal.returns-in_ok-push_path-in-Ancestors
returns-in_ok-push_path-in-Ancestors c =
    rw (
      c.in_ok-push_path-in-Ancestors.ensures,
      c.in_ok-extend_from_slice-in-Ancestors.ensures.items,
      c.in-Ancestors.is,
      append_assoc,
    )
