use Rattle.std.proofs.lemmas.List.{append_assoc}
use Rattle.load_replies.proofs.reply.push_no_reply.Goals as goal

pub returns-in_ok-push_path-in-NoController : goal.returns-in_ok-push_path-in-NoController
returns-in_ok-push_path-in-NoController c = λ segment segments.
    rw (
      c.in_ok-push_path-in-NoController.ensures,
      c.in_ok-extend_from_slice-in-NoController.ensures.items,
      c.in-NoController.is,
      append_assoc,
    )
