-- The words of a printed file are a file of the grammar, and its tree is the one that was printed.
use Rattle.std.proofs.Common.{ℕ, false, List, [], sym, subst, le_refl}
use Rattle.std.proofs.lemmas.List.Folds.{flat_map-map}
use Rattle.ruby_types.specs.declared.tree.FileTree.{FileTree}
use Rattle.descent.specs.Grammar.{Spells, only, first, later}
use Rattle.ruby_grammar.specs.Rules.{file}
use Rattle.ruby_grammar.specs.Language.{ruby_grammar}
use Rattle.ruby_print_pieces.specs.Pieces.{words_at}
use Rattle.ruby_print_pieces.specs.Statements.{line}
use Rattle.ruby_print_pieces.specs.Definitions.{definition, file_pieces}
use Rattle.ruby_print_pieces.specs.FormedFiles.{FormedFile, Apart, Deed}
use Rattle.ruby_print_words.proofs.Marked.{Marked, tells, tells_over, m_given, m_ends, m_says, clear_of}
use Rattle.ruby_print_words.proofs.Bodies.{Lot}
use Rattle.ruby_print_words.proofs.Definitions.{defined}

told_file : (tree : FileTree) (l : ℕ) (ds : List Deed) → Lot [] tree.defs ds l →
    Marked 0 (only (file l false)) (file_pieces tree) ds tree
told_file tree l ds h = m_says
    (tells (later first) (m_ends (tells_over (sym (flat_map-map (line []) definition tree.defs)) (h.read 0 [] []))
    m_given))

spelled_of : (tree : FileTree) (l : ℕ) (ds : List Deed) → Apart [] ds →
    Marked 0 (only (file l false)) (file_pieces tree) ds tree →
    Spells ruby_grammar (file l false) (words_at 0 (file_pieces tree)) tree
spelled_of tree l ds apart h =
    record {
      items = h.items;
      spelled = h.spelled;
      says = h.says;
      clear =
          clear_of [] h.items (subst (λ es. Apart [] es) (sym h.does) apart);
    }

-- The law of this crate: the printed words of a formed tree are a file of the grammar with that tree.
pub formed_is_spelled : (tree : FileTree) → FormedFile tree → (levels : ℕ)
    × Spells ruby_grammar (file levels false) (words_at 0 (file_pieces tree)) tree
formed_is_spelled tree f = let e = defined f.formed in (
  e.least,
  spelled_of tree e.least f.deeds f.apart
      (told_file tree e.least f.deeds (e.holds e.least (le_refl e.least))),
)
