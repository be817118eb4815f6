use Rattle.std.proofs.Common.{◌∙◌, ap, slice_get}
use Rattle.std.specs.Option.{option_map}
use Rattle.program_index.specs.Content.{Content}
use Rattle.program_index.specs.Program.{fault_of, tree_by, unless}
use Rattle.program_index.proofs.program.Program.tree_of.Goals as goal

pub returns : goal.returns
returns c =
    let tree = c.tree_at.ensures ∙ ap (λ ts. tree_by (slice_get ts c.args.file)) c.as_slice.ensures.value
    ∙ ap (λ (p : Content). tree_by (slice_get p.texts c.args.file)) c.self.view_is in
    c.unless.ensures
    ∙ ap (λ f. unless f (option_map (λ t. t.now) c.tree_at.result)) c.fault_of.ensures
    ∙ ap (unless (fault_of c.args.self.now c.args.file)) tree
