use Rattle.std.proofs.Common.{refl, ◌∙◌}
use Rattle.tree_scan_sites.specs.Listed.{hidden_files}
use Rattle.tree_scan_sites.proofs.TableLaws.{same_answers}
use Rattle.tree_scan_sites.proofs.table.SiteTable.new.Goals as goal

pub invariant_of-result : goal.invariant_of-result
invariant_of-result c =
    let spelled = c.put_in_order.new.spelled.items in
    record {
      sorted = c.in_ok-put_in_order.ensures.sorted;
      rows = c.in_ok-rows.ensures
          ∙ rw (
            c.as_slice-2.ensures.value,
            c.as_slice-3.ensures.value,
            c.in_ok-paths.ensures,
            c.as_slice.ensures.value,
          ) refl;
      top = c.in_ok-top.ensures ∙ rw (c.as_slice-4.ensures.value, c.in_ok-paths.ensures, c.as_slice.ensures.value) refl;
      none = c.new.ensures;
      rising = c.in_ok-shadowed.ensures.rising;
      hidden = same_answers c.in_ok-shadowed.shadowed.items (hidden_files spelled spelled)
          (rw c.as_slice-5.ensures.value at c.in_ok-shadowed.ensures.exact);
    }
