-- A printed tree of a text is read as the same tree.
use Rattle.std.proofs.Common.{◌≡◌, ℕ, List, false, sym, subst, Result, Ok, Err, IfOk}
use Rattle.ruby_types.specs.declared.tree.FileTree.{FileTree}
use Rattle.descent.specs.Grammar.{Spells}
use Rattle.ruby_grammar.specs.Words.{Word}
use Rattle.ruby_grammar.specs.Rules.{file}
use Rattle.ruby_grammar.specs.Language.{ruby_grammar}
use Rattle.ruby_grammar.specs.Faults.{IsText}
use Rattle.ruby_print.specs.Definitions.{print}
use Rattle.ruby_print_pieces.specs.Definitions.{file_pieces}
use Rattle.ruby_print_pieces.specs.Reprinted.{IsDeepText}
use Rattle.ruby_print_tokens.specs.Flows.{tokens_at}
use Rattle.ruby_print_trees.proofs.Law.{formed_text}
use Rattle.ruby_print_words.proofs.Law.{formed_is_spelled}
use Rattle.ruby_print_tokens.proofs.Files.{formed_is_lexed}

read_back : (bytes text : List ℕ) (tree : FileTree) → text ≡ print tree → IsText bytes tree → IsDeepText text tree
read_back bytes text tree e t =
    let formed = formed_text bytes tree t in
    let spelled = formed_is_spelled tree formed in
    let lexed = formed_is_lexed tree formed in
    let P : List Word → Type 0 = λ ws. Spells ruby_grammar (file spelled.0 false) ws tree in
    subst (λ b. IsDeepText b tree) (sym e) (
      spelled.0,
      record {
        tokens = tokens_at 0 (file_pieces tree);
        lexed = lexed.0;
        spelled =
            subst P (sym lexed.1) spelled.1;
      },
    )

-- What is printed of a text's tree is a deep text of the same tree: for the clause `read_back`.
pub result_read_back : {E : Type 0} (r : Result (List ℕ) E) (tree : FileTree) → IfOk r (λ text. text ≡ print tree) →
    IfOk r (λ text. (bytes : List ℕ) → IsText bytes tree → IsDeepText text tree)
result_read_back (Ok text) tree e = λ bytes t. read_back bytes text tree e t
result_read_back (Err x) tree e = tt
