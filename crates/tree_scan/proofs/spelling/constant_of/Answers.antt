use Rattle.std.proofs.lemmas.Option.{slice_get_within}
use Rattle.tree_scan_roots.specs.Above.{IsLongestAbove, NoneAbove}
use Rattle.tree_scan_names.specs.Spellings.{above, behind, IsSpelling}
use Rattle.tree_scan_names.specs.declared.spelling.Spelling.TheVariants.{Names, Nothing, BadName}
use Rattle.tree_scan.proofs.RootLaws.{none_longest}
use Rattle.tree_scan.proofs.SpellLaws.{end_of, nothing_told, bad_told, no_bad_name, constant_told, same_spelling}
use Rattle.tree_scan.proofs.SpellLaws.{same_namespace}
use Rattle.tree_scan.proofs.spelling.constant_of.Goals as goal

pub returns-in_default-clause-exact : goal.returns-in_default-clause-exact
returns-in_default-clause-exact c =
    let none : NoneAbove c.args.roots.now c.args.file.now.path = rw (← c.as_bytes-path.ensures) c.in_default.ensures in
    λ constant root. (λ h. absurd h, λ s. none_longest c.args.roots.now c.args.file.now.path root none s.spells.longest)

pub returns-in_default-clause-named : goal.returns-in_default-clause-named
returns-in_default-clause-named c =
    let none : NoneAbove c.args.roots.now c.args.file.now.path = rw (← c.as_bytes-path.ensures) c.in_default.ensures in
    λ h. none_longest c.args.roots.now c.args.file.now.path h.root none h.spells.longest

pub root_at-root-requires : goal.root_at-root-requires
root_at-root-requires c = let l : IsLongestAbove c.args.roots.now c.as_bytes-path.result.now c.in-Some.number =
    c.in-Some.ensures in slice_get_within c.args.roots.now c.in-Some.number l.root l.at

pub returns-in_ok-joined_path-in-Names-clause-exact : goal.returns-in_ok-joined_path-in-Names-clause-exact
returns-in_ok-joined_path-in-Names-clause-exact c =
    let l : IsLongestAbove c.args.roots.now c.args.file.now.path c.in-Some.number =
    rw (← c.as_bytes-path.ensures) c.in-Some.ensures in
    let s : IsSpelling c.args.rules.now (above c.args.file.now.path (end_of l))
    (behind c.args.file.now.path (end_of l)) (Names c.in-Names.names) =
    same_spelling c.args.rules.now c.args.roots.now c.args.file.now.path c.as_bytes-path.result.now c.in-Some.number
    c.len.result c.root_at-root.result.now c.in_ok-names.field-0
    (Names c.in-Names.names) l c.as_bytes-path.ensures c.root_at-root.ensures.at c.len.ensures c.in-Names.is
    c.in_ok-names.ensures.spelled in
    constant_told c.args.roots.now c.args.rules.now c.args.file.now.path c.in-Some.number l c.in-Names.names
    c.in_ok-joined_path-in-Names.field-0 c.root_at-root.ensures.distinct s
    (same_namespace c.args.roots.now c.args.file.now.path c.in-Some.number c.root_at-root.result.now l
    c.in_ok-joined_path-in-Names.field-0 c.in-Names.names c.as_slice.result.now c.root_at-root.ensures.at
    c.in_ok-joined_path-in-Names.ensures c.as_slice.ensures)

pub returns-in_ok-joined_path-in-Names-clause-named : goal.returns-in_ok-joined_path-in-Names-clause-named
returns-in_ok-joined_path-in-Names-clause-named c =
    let l : IsLongestAbove c.args.roots.now c.args.file.now.path c.in-Some.number =
    rw (← c.as_bytes-path.ensures) c.in-Some.ensures in
    no_bad_name c.args.roots.now c.args.rules.now c.args.file.now.path c.in-Some.number l c.in-Names.names
    (same_spelling c.args.rules.now c.args.roots.now c.args.file.now.path c.as_bytes-path.result.now
    c.in-Some.number c.len.result c.root_at-root.result.now c.in_ok-names.field-0
    (Names c.in-Names.names) l c.as_bytes-path.ensures c.root_at-root.ensures.at c.len.ensures c.in-Names.is
    c.in_ok-names.ensures.spelled)

pub returns-in-Nothing-clause-exact : goal.returns-in-Nothing-clause-exact
returns-in-Nothing-clause-exact c =
    let l : IsLongestAbove c.args.roots.now c.args.file.now.path c.in-Some.number =
    rw (← c.as_bytes-path.ensures) c.in-Some.ensures in
    λ constant root. (
      λ h. absurd h,
      λ s. nothing_told c.args.roots.now c.args.rules.now c.args.file.now.path c.in-Some.number l
          (same_spelling c.args.rules.now c.args.roots.now c.args.file.now.path c.as_bytes-path.result.now
          c.in-Some.number c.len.result c.root_at-root.result.now c.in_ok-names.field-0 Nothing l
          c.as_bytes-path.ensures c.root_at-root.ensures.at c.len.ensures c.in-Nothing.is
          c.in_ok-names.ensures.spelled)
          root s.names s.spells,
    )

pub returns-in-Nothing-clause-named : goal.returns-in-Nothing-clause-named
returns-in-Nothing-clause-named c =
    let l : IsLongestAbove c.args.roots.now c.args.file.now.path c.in-Some.number =
    rw (← c.as_bytes-path.ensures) c.in-Some.ensures in
    λ h. nothing_told c.args.roots.now c.args.rules.now c.args.file.now.path c.in-Some.number l
    (same_spelling c.args.rules.now c.args.roots.now c.args.file.now.path c.as_bytes-path.result.now
    c.in-Some.number c.len.result c.root_at-root.result.now c.in_ok-names.field-0 Nothing l
    c.as_bytes-path.ensures c.root_at-root.ensures.at c.len.ensures c.in-Nothing.is c.in_ok-names.ensures.spelled)
    h.root h.names h.spells

pub returns-in_ok-copy-in-BadName-clause-fault : goal.returns-in_ok-copy-in-BadName-clause-fault
returns-in_ok-copy-in-BadName-clause-fault c =
    let l : IsLongestAbove c.args.roots.now c.args.file.now.path c.in-Some.number =
    rw (← c.as_bytes-path.ensures) c.in-Some.ensures in (
      c.in_ok-copy-in-BadName.ensures,
      bad_told c.args.roots.now c.args.rules.now c.args.file.now.path c.in-Some.number l
          (same_spelling c.args.rules.now c.args.roots.now c.args.file.now.path c.as_bytes-path.result.now
          c.in-Some.number c.len.result c.root_at-root.result.now c.in_ok-names.field-0 BadName l
          c.as_bytes-path.ensures c.root_at-root.ensures.at c.len.ensures c.in-BadName.is
          c.in_ok-names.ensures.spelled),
    )
