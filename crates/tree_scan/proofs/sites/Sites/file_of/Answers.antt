use Rattle.tree_scan.proofs.sites.Sites.file_of.Goals as goal

pub returns-clause-none : goal.returns-clause-none
returns-clause-none c = rw (← c.self.view_is) c.file_of.ensures.none
