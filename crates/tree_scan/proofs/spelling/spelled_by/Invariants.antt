use Rattle.tree_scan.proofs.ListLaws.{ListsBefore, NamedBefore}
use Rattle.tree_scan.proofs.spelling.spelled_by.Given as goal

abbrev pub invariant-files : goal.invariant-files
invariant-files l = record {
  listed : ListsBefore l.roots l.rules l.files l.place l.spelled.items;
  named : NamedBefore l.roots l.rules l.files l.place;
}
