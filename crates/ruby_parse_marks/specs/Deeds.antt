-- What is done to paths, by their numbers.
use Rattle.std.specs.Prelude.{◌≡◌, ℕ, Bool, true, false, ◌&&◌, ◌||◌, ◌==◌, List, [], bytes_eq}
use Rattle.std.specs.List.{list_any}
use Rattle.indexmap.specs.IndexSet.{insert_key}
use Rattle.ruby_grammar.specs.Marks.{same_flag}
use Rattle.ruby_parse_marks.specs.declared.act.Act.{Act}
use Rattle.ruby_parse_marks.specs.declared.act.Act.TheVariants as act
use Rattle.ruby_parse_marks.specs.declared.deeds.Method.{Method}
use Rattle.ruby_parse_marks.specs.declared.deeds.Deeds.{Deeds}

-- the numbers of the paths that are assigned, opened or given a parent, and the methods that are defined
pub record Done : Type 0 where
  pub assigned : List ℕ
  pub modules : List ℕ
  pub classes : List ℕ
  pub parents : List ℕ
  pub methods : List Method

-- nothing is done yet, as at the beginning of a file
abbrev pub nothing_done : Done
nothing_done = record { assigned = []; modules = []; classes = []; parents = []; methods = [] }

-- what the table keeps of each kind of act, as lists
abbrev pub done_of : Deeds → Done
done_of d = record {
  assigned = d.assigned.keys;
  modules = d.modules.keys;
  classes = d.classes.keys;
  parents = d.parents.keys;
  methods = d.methods.keys;
}

-- both are the same method: of one body, both singleton methods or neither, and of one name
abbrev pub same_method : Method → Method → Bool
same_method a b = (a.body == b.body) && (same_flag a.single b.single && bytes_eq a.name.items b.name.items)

-- this number is among the others
abbrev pub has_number : List ℕ → ℕ → Bool
has_number ns n = list_any (λ m. n == m) ns

-- what was done to the path of this number clashes with such an act
abbrev pub clashes_at : Done → ℕ → Act → Bool
clashes_at d n act.Assigns = has_number d.assigned n || (has_number d.modules n || has_number d.classes n)
clashes_at d n act.OpensModule = has_number d.assigned n || has_number d.classes n
clashes_at d n act.OpensClass = has_number d.assigned n || has_number d.modules n
clashes_at d n act.GivesParent = has_number d.parents n
clashes_at d n (act.Defines single name) =
    list_any (same_method (record { body = n; single = single; name = name })) d.methods

-- these numbers and this one besides, which stands once
abbrev pub with_number : List ℕ → ℕ → List ℕ
with_number ns n = insert_key (λ a b. a == b) ns n

-- this is done to the path of this number besides
abbrev pub done_at : Done → ℕ → Act → Done
done_at d n act.Assigns = record {
  assigned = with_number d.assigned n;
  modules = d.modules;
  classes = d.classes;
  parents = d.parents;
  methods = d.methods;
}
done_at d n act.OpensModule = record {
  assigned = d.assigned;
  modules = with_number d.modules n;
  classes = d.classes;
  parents = d.parents;
  methods = d.methods;
}
done_at d n act.OpensClass = record {
  assigned = d.assigned;
  modules = d.modules;
  classes = with_number d.classes n;
  parents = d.parents;
  methods = d.methods;
}
done_at d n act.GivesParent = record {
  assigned = d.assigned;
  modules = d.modules;
  classes = d.classes;
  parents = with_number d.parents n;
  methods = d.methods;
}
done_at d n (act.Defines single name) = record {
  assigned = d.assigned;
  modules = d.modules;
  classes = d.classes;
  parents = d.parents;
  methods = insert_key same_method d.methods (record { body = n; single = single; name = name });
}

-- It is done, or it clashes and nothing is done.
abbrev pub Does : Done → ℕ → Act → Bool → Done → Type 0
Does d n a true e = (clashes_at d n a ≡ false) × (e ≡ done_at d n a)
Does d n a false e = (clashes_at d n a ≡ true) × (e ≡ d)
