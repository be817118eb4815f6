use Rattle.tree_scan.proofs.sites.Sites.rows.Goals as goal

pub returns-clause-children : goal.returns-clause-children
returns-clause-children c = rw (← c.self.view_is) c.rows.ensures.children
