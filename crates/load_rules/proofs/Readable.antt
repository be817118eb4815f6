-- Which texts are not readable, and what the reply of a file is.
use Rattle.std.proofs.Common.{◌≡◌, ℕ, List, ◌++◌, codes, None, Some, inl, inr, ap, ◌∙◌, sym, subst}
use Rattle.std.proofs.lemmas.List.{append_cancel_left, append_cancel_right}
use Rattle.outside.specs.declared.files.FileEntry.{FileEntry}
use Rattle.ruby_types.specs.declared.request.Reply.{Reply}
use Rattle.ruby_types.specs.declared.tree.FileTree.{FileTree}
use Rattle.ruby_grammar.specs.Faults.{IsText}
use Rattle.ruby_grammar.proofs.Texts.{one_text, no_fault_in_a_text}
use Rattle.load_rules.specs.declared.names.Asked.{Asked}
use Rattle.load_rules.specs.declared.reading.Reading.{Reading}
use Rattle.load_rules.specs.Names.{first_path, class_name}
use Rattle.load_rules.specs.FirstForm.{FirstParts, first_tree}
use Rattle.load_rules.specs.FirstReply.{IsReadableText, IsFileOf, IsFileReply, FirstReply, no_controller, no_tree}
use Rattle.load_rules.specs.FirstReply.{no_action, answers, no_controller_text}
use Rattle.load_rules.specs.Readings.{IsReadingOf, IsFileReading, IsAskedOf, IsFoundReply}

-- a text with another tree has no tree of the first form, and no fault
pub other_tree_is_not_readable : (class bytes : List ℕ) (tree : FileTree) → IsText bytes tree →
    ((parts : FirstParts) → tree ≡ first_tree class parts → ⊥) → ¬ (IsReadableText class bytes)
other_tree_is_not_readable class bytes tree is unlike (inl (parts, text)) =
    unlike parts (one_text bytes tree (first_tree class parts) is text)
other_tree_is_not_readable class bytes tree is unlike (inr (at, why, none)) =
    no_fault_in_a_text bytes tree at why is none

first_path_injective : (a b : List ℕ) → first_path a ≡ first_path b → a ≡ b
first_path_injective a b e = append_cancel_right a b (codes "_controller.rb")
    (append_cancel_left (codes "app/controllers/") (a ++ codes "_controller.rb") (b ++ codes "_controller.rb") e)

-- a file with the path that is asked for was read as the class that is asked for
pub reading_of_asked : (file : FileEntry) (reading : Reading) (asked : Asked) (controller action : List ℕ) →
    IsAskedOf controller action asked
    → file.path ≡ asked.path → IsFileReading file reading → IsReadingOf asked.class file.bytes reading
reading_of_asked file reading asked controller action of placed (name, letters, path, read) =
    let same : name ≡ controller = first_path_injective name controller (sym path ∙ placed ∙ of.0) in
    subst (λ class. IsReadingOf class file.bytes reading) (ap class_name same ∙ sym of.1) read

one_reply : (files : List FileEntry) (controller action : List ℕ) (file : FileEntry) (reply : Reply) →
    IsFileOf files controller file
    → IsFileReply (class_name controller) action file reply → FirstReply files controller action reply
one_reply files controller action file reply of (inl (at, why, none, is)) =
    subst (FirstReply files controller action) (sym is) (no_tree file at why of none)
one_reply files controller action file reply of (inr (parts, form, inl (same, is))) =
    subst (FirstReply files controller action) (sym is) (answers file parts of form same)
one_reply files controller action file reply of (inr (parts, form, inr (other, is))) =
    subst (FirstReply files controller action) (sym is) (no_action file parts of form other)

-- the reply of the file that is asked for
pub found_reply : (files : List FileEntry) (controller action : List ℕ) (asked : Asked) (reply : Reply) →
    IsAskedOf controller action asked
    → IsFoundReply files asked (Some reply) → FirstReply files controller action reply
found_reply files controller action asked reply of (file, among, placed, is) =
    let here = subst (λ class. IsFileReply class asked.action.now file reply) of.1 is in
    one_reply files controller action file reply (record { among = among; path = placed ∙ of.0 })
    (subst (λ a. IsFileReply (class_name controller) a file reply) of.2 here)

-- no file, no controller
pub no_reply : (files : List FileEntry) (controller action : List ℕ) (asked : Asked) (body : List ℕ) →
    IsAskedOf controller action asked
    → IsFoundReply files asked None → body ≡ no_controller_text asked.class →
    FirstReply files controller action (record { status = 404; body = body })
no_reply files controller action asked body of none is =
    let P : List ℕ → Type 0 = λ text. FirstReply files controller action (record { status = 404; body = text }) in
    subst P (sym (is ∙ ap no_controller_text of.1)) (no_controller (λ file it. none file it.among (it.path ∙ sym of.0)))
