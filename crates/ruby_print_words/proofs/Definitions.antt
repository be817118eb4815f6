-- The pieces of the definitions that texts have are sentences of the rules of definitions, with marks that do what is
-- said of them.
use Rattle.std.proofs.Common.{ℕ, List}
use Rattle.ruby_grammar.specs.Rules.{Path}
use Rattle.ruby_print_pieces.specs.FormedFiles as f
use Rattle.ruby_print_pieces.specs.FormedFiles.{Form, Held, FormedDef, Deed, definition, several_definitions}
use Rattle.ruby_print_words.proofs.Building.{Eventually, always, so, both, deeper}
use Rattle.ruby_print_words.proofs.Expressions.{shown}
use Rattle.ruby_print_words.proofs.Statements.{told}
use Rattle.ruby_print_words.proofs.Bodies.{One, Lot, no_definitions, definitions_more, module_read, class_read}
use Rattle.ruby_print_words.proofs.Bodies.{subclass_read, assignment_read, include_read, readers_read, method_read}

-- What is shown of a formed definition's pieces, by its form.
abbrev pub Defined : Path → (f : Form) → Held f → List Deed → ℕ → Type 0
Defined path definition d ds = One path d ds
Defined path several_definitions xs ds = Lot path xs ds

-- The pieces of each formed definition are read as it is, with its deeds.
pub defined : {path : Path} {f : Form} {x : Held f} {ds : List Deed} → FormedDef path f x ds →
    Eventually (Defined path f x ds)
defined (f.is_module {path} {names} {body} {ds} p h) = so (λ l r. module_read path names body ds l p r)
    (deeper (defined h))
defined (f.is_class {path} {names} {body} {ds} p h) = so (λ l r. class_read path names body ds l p r)
    (deeper (defined h))
defined (f.is_subclass {path} {names} {c} {body} {ds} p i h) = so (λ l r. subclass_read path names c body ds l p i r)
    (deeper (defined h))
defined (f.is_assignment {path} {n} {x} i h) = so (λ l r. assignment_read path n x l r) (shown h)
defined (f.is_method {path} {single} {n} {params} {after} {body} e i p h) =
    so (λ l r. method_read path single n params after body l e i.free p r)
    (deeper (both (deeper (always (λ l. tt))) (told h)))
defined (f.is_include {path} {c} e i) = always (λ l. include_read path c l e i)
defined (f.is_readers {path} {names} {ds} e h) = always (λ l. readers_read path names ds l e h)
defined (f.no_more {path}) = always (no_definitions path)
defined (f.one_more {path} {d} {body} {ds} {es} h k) = so (λ l r. definitions_more path d body ds es l r.0 r.1)
    (both (defined h) (defined k))
