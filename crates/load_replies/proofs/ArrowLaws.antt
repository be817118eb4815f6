-- Names with arrows between them.
use Rattle.std.proofs.Common.{◌≡◌, List, [], ◌∷◌, ◌++◌, map, codes, sym, ap, ◌∙◌}
use Rattle.std.specs.List.{flat_map}
use Rattle.std.proofs.lemmas.List.{append_assoc, append-nil}
use Rattle.ruby_types.specs.declared.request.Task.{Task}
use Rattle.task_keys.specs.Names.{task_name}
use Rattle.program_theory.specs.Replies.{arrows}
use Rattle.load_replies.specs.Arrows.{arrow}

-- the first name, and each other behind its arrow
pub arrows_behind : (first : Task) (others : List Task) →
    arrows (map task_name (first ∷ others)) ≡ task_name first ++ flat_map arrow others
arrows_behind first [] = sym (append-nil (task_name first))
arrows_behind first (next ∷ others) =
    ap (λ rest. task_name first ++ rest)
    (ap (λ rest. codes " -> " ++ rest) (arrows_behind next others)
    ∙ sym (append_assoc (codes " -> ") (task_name next) (flat_map arrow others)))
