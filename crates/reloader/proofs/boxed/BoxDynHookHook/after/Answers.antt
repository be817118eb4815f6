use Rattle.std.proofs.Common.{◌∙◌}
use Rattle.reloader.proofs.Objects.{tells_same, changed_same}
use Rattle.reloader.proofs.boxed.BoxDynHookHook.after.Goals as goal

pub returns-clause-hook : goal.returns-clause-hook
returns-clause-hook g c =
    let self = c.args.self.now in
    let notes = c.args.notes.now in
    changed_same (λ i x. record { ptr = self.ptr; vtable = i; alloc = self.alloc; value = x })
    (λ i x. (g.dyn-1.0.entry i).1.after_hook x notes) _ _ _ c.after.ensures.0 c.deref_box_mut-1.ensures.value.1

pub returns-clause-notes : goal.returns-clause-notes
returns-clause-notes g c = c.after.ensures.1
    ∙ tells_same (λ i x. (g.dyn-1.0.entry i).1.after_notes x c.args.notes.now) _ _ c.deref_box_mut-1.ensures.value.1
