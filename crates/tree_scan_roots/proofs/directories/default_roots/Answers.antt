use Rattle.std.proofs.Common.{◌↔◌, [], ◌∷◌, ◌++◌, take, sym, ap, ◌∙◌, subst}
use Rattle.std.proofs.lemmas.List.{map_more}
use Rattle.outside.specs.Tree.{paths_of}
use Rattle.tree_scan_roots.specs.Directories.{IsDefaultRoot}
use Rattle.tree_scan_roots.specs.Keys.{Has}
use Rattle.tree_scan_roots.proofs.DirectoryLaws.{roots_more}
use Rattle.tree_scan_roots.proofs.directories.default_roots.Goals as goal

pub files-preserved : goal.files-preserved
files-preserved c = λ directory.
    let files = c.args.files.now in
    let i = c.files.file-index in
    let file = c.file-item.result in
    let more = map_more (λ f. f.path) files i file c.files-test.true
    ∙ ap (λ f. paths_of (take i files) ++ f.path ∷ []) (sym c.file-item.is) in
    subst
    (λ paths. Has c.add_roots_above.new.found directory ↔ IsDefaultRoot paths directory)
    (sym more)
    (roots_more (paths_of (take i files)) file.path directory _ _ (c.files.invariant directory)
    (rw c.as_bytes.ensures at (c.in_ok-add_roots_above.ensures directory)))
