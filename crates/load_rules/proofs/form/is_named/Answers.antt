use Rattle.std.proofs.Common.{◌∙◌, sym}
use Rattle.std.proofs.lemmas.Bool.Decides.{Decides-eqb}
use Rattle.std.proofs.lemmas.Slice.Eq.{slice_eq-Decides}
use Rattle.load_rules.proofs.Forms.{named}
use Rattle.load_rules.proofs.form.is_named.Goals as goal

pub returns-in-len1 : goal.returns-in-len1
returns-in-len1 c =
    let decides = slice_eq-Decides Decides-eqb _ _ _ c.eq.ensures in
    named c.args.path.now c.args.class.now c.name-item.result c.eq.result c.in-len1.len_at_least c.in-len1.len_below
    c.name-item.is
    (λ e. sym c.as_bytes.ensures ∙ decides.0 e, λ e. decides.1 (c.as_bytes.ensures ∙ e))
