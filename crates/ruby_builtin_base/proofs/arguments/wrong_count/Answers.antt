use Rattle.ruby_builtin_base.proofs.arguments.wrong_count.Goals as goal

pub returns : goal.returns
returns c = rw (
  c.in_ok-push.ensures.items,
  c.in_ok-extend_from_slice-3.ensures.items,
  c.in_ok-extend_from_slice-2.ensures.items,
  c.in_ok-extend_from_slice.ensures.items,
  c.in_ok-text.ensures.items,
  c.as_bytes.ensures.value,
  c.in_ok-count.ensures.ok,
)
