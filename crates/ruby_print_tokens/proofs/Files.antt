-- The bytes of a printed file are cut into its pieces.
use Rattle.std.proofs.Common.{◌≡◌, List, [], ◌∷◌, map, refl, ap, sym, ◌∙◌, subst, Some, None, IsUtf8}
use Rattle.std.specs.List.{AllByRecursion}
use Rattle.std.proofs.lemmas.List.Folds.{flat_map-map}
use Rattle.ruby_types.specs.declared.tree.Def.{Def, fold_out-Def, map-Def, out-Def}
use Rattle.ruby_types.specs.declared.tree.Def.TheVariants as def
use Rattle.ruby_types.specs.declared.tree.Def.TheOpen.{Def-F}
use Rattle.ruby_types.specs.declared.tree.FileTree.{FileTree}
use Rattle.ruby_token.specs.Cut.{Lexes, done}
use Rattle.ruby_token.specs.State.{start}
use Rattle.ruby_grammar.specs.Rules.{Name, Path}
use Rattle.ruby_grammar.specs.Words.{words_of}
use Rattle.ruby_print.specs.Statements as print_statements
use Rattle.ruby_print.specs.Definitions as print
use Rattle.ruby_print_pieces.specs.Names.{IsSymbolName}
use Rattle.ruby_print_pieces.specs.Pieces.{bytes_of, words_at}
use Rattle.ruby_print_pieces.specs.Statements.{Placed, line, lines}
use Rattle.ruby_print_pieces.specs.Definitions.{definition, definition_step, file_pieces}
use Rattle.ruby_print_pieces.specs.FormedFiles as formed
use Rattle.ruby_print_pieces.specs.FormedFiles.{Form, Held, FormedDef, FormedReaders, FormedFile, Deed, last_reader}
use Rattle.ruby_print_pieces.specs.FormedFiles.{reader_more}
use Rattle.ruby_print_tokens.specs.Flows.{Flows, tokens_at}
use Rattle.ruby_print_pieces.proofs.Folds.{placed_definition}
use Rattle.ruby_print_tokens.proofs.Reading.{flows_lexes}
use Rattle.ruby_print_tokens.proofs.ReadingWords.{words_of_pieces}
use Rattle.ruby_print_tokens.proofs.StatementsRuns.{Fresh}
use Rattle.ruby_print_tokens.proofs.StatementsLines.{Item, EachItem, lines_run, lines_bytes, utf8_lines}
use Rattle.ruby_print_tokens.proofs.Statements.{statement_items}
use Rattle.ruby_print_tokens.proofs.FilesItems.{module_item, class_item, assign_item, method_item, include_item}
use Rattle.ruby_print_tokens.proofs.FilesItems.{readers_item}

-- ---- by the tree

print_level : (x : Def) (l : Def-F Def) → out-Def x ≡ l →
    print.definition x ≡ print.definition_step (map-Def Def print_statements.Placed print.definition l)
print_level x l e = fold_out-Def print_statements.Placed print.definition_step x
    ∙ ap (λ l. print.definition_step (map-Def Def print_statements.Placed print.definition l)) e

item_level : (x : Def) (l : Def-F Def) → out-Def x ≡ l →
    Item (definition_step (map-Def Def Placed definition l))
    (print.definition_step (map-Def Def print_statements.Placed print.definition l)) →
    Item (definition x) (print.definition x)
item_level x l e t =
    subst (λ f. Item f (print.definition x)) (sym (placed_definition x e))
    (subst (λ g. Item (definition_step (map-Def Def Placed definition l)) g) (sym (print_level x l e)) t)

abbrev Says : (f : Form) → Held f → Type 0
Says formed.definition x = Item (definition x) (print.definition x)
Says formed.several_definitions ds = EachItem (map definition ds) (map print.definition ds)

each_symbol : {path : Path} {ns : List Name} {ds : List Deed} → FormedReaders path ns ds →
    AllByRecursion IsSymbolName ns
each_symbol (last_reader h) = (h, tt)
each_symbol (reader_more h g) = (h, each_symbol g)

readers_says : {path : Path} {ns : List Name} {ds : List Deed} → FormedReaders path ns ds →
    Item (definition (def.Readers ns)) (print.definition (def.Readers ns))
readers_says (last_reader {n} h) = item_level _ _ (def.outs-Readers (n ∷ [])) (readers_item n [] (h, tt))
readers_says (reader_more {n} {ns} h g) = item_level _ _ (def.outs-Readers (n ∷ ns))
    (readers_item n ns (h, each_symbol g))

says : {path : Path} {f : Form} {x : Held f} {ds : List Deed} → FormedDef path f x ds → Says f x
says (formed.is_module {names = ns} {body = body} h g) = item_level _ _ (def.outs-Module ns body)
    (module_item ns (map definition body) (map print.definition body) h.0 (says g))
says (formed.is_class {names = ns} {body = body} h g) = item_level _ _ (def.outs-Class ns None body)
    (class_item ns None (map definition body) (map print.definition body) h.0 tt (says g))
says (formed.is_subclass {names = ns} {c = c} {body = body} h k g) = item_level _ _ (def.outs-Class ns (Some c) body)
    (class_item ns (Some c) (map definition body) (map print.definition body) h.0 k (says g))
says (formed.is_assignment {n = n} {x = x} p h) = item_level _ _ (def.outs-Assign n x) (assign_item p h)
says (formed.is_method {single = single} {n = n} {params = ps} {body = ss} at h hp g) =
    item_level _ _ (def.outs-Method single n ps ss) (method_item single n ps ss h hp (statement_items g))
says (formed.is_include {c = c} at h) = item_level _ _ (def.outs-Include c) (include_item c h)
says (formed.is_readers at h) = readers_says h
says formed.no_more = tt
says (formed.one_more h g) = (says h, says g)

-- ---- the whole file

file_is : (tree : FileTree) → lines [] (map definition tree.defs) ≡ file_pieces tree
file_is tree = flat_map-map (line []) definition tree.defs

print_is : (tree : FileTree) → print_statements.lines [] (map print.definition tree.defs) ≡ print.print tree
print_is tree = flat_map-map (print_statements.line []) print.definition tree.defs

at_start : Fresh start
at_start = record { code = record { opens = refl; brackets = refl; after = refl }; before = refl }

printed_bytes : (tree : FileTree) → FormedFile tree → bytes_of (file_pieces tree) ≡ print.print tree
printed_bytes tree f =
    ap bytes_of (sym (file_is tree)) ∙ lines_bytes (map definition tree.defs) (map print.definition tree.defs) []
    (says f.formed) ∙ print_is tree

utf8_printed : (tree : FileTree) → FormedFile tree → IsUtf8 (print.print tree)
utf8_printed tree f = subst IsUtf8 (print_is tree)
    (utf8_lines (map definition tree.defs) (map print.definition tree.defs) [] (says f.formed) tt)

-- The law of this crate: the bytes of a printed file are cut into its pieces.
pub formed_is_lexed : (tree : FileTree) → FormedFile tree →
    Lexes (print.print tree) (done (tokens_at 0 (file_pieces tree)))
    × (words_of (print.print tree) (tokens_at 0 (file_pieces tree)) ≡ words_at 0 (file_pieces tree))
formed_is_lexed tree f =
    let run = lines_run (map definition tree.defs) (map print.definition tree.defs) []
    (says f.formed) tt start 0 [] at_start refl in
    let flows : Flows [] start 0 (file_pieces tree) run.0 = rw (file_is tree) at run.1 in
    let bytes : bytes_of (file_pieces tree) ≡ print.print tree = printed_bytes tree f in
    let u : IsUtf8 (bytes_of (file_pieces tree)) = subst IsUtf8 (sym bytes) (utf8_printed tree f) in (
      subst (λ b. Lexes b (done (tokens_at 0 (file_pieces tree)))) bytes (flows_lexes u flows run.2.code.opens),
      subst (λ b. words_of b (tokens_at 0 (file_pieces tree)) ≡ words_at 0 (file_pieces tree)) bytes
          (words_of_pieces (file_pieces tree)),
    )
