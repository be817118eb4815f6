-- The words of commands are command lines.
use Rattle.std.proofs.Common.{ℕ, List, Option, Some, None, refl, sym, subst}
use Rattle.command_words.specs.Words.{IsCommandLine, AreConnections}
use Rattle.command_words.specs.Command.{Spells, SpellsConnections}
use Rattle.command_words.specs.declared.words.CommandName.TheVariants as n
use Rattle.command_words.specs.declared.words.Command.{Command}
use Rattle.command_words.specs.declared.words.Command.TheVariants.{Get, Check, CheckEager, Tree, Replay, Demo, Serve}

are_connections : (connections : Option ℕ) (words : List (List ℕ)) → SpellsConnections connections words →
    AreConnections words
are_connections None words is = subst AreConnections (sym is) tt
are_connections (Some number) words (word, is, reads) = subst AreConnections (sym is) (number, reads)

-- the words of a command are a command line
pub is_command_line : (command : Command) (words : List (List ℕ)) → Spells command words → IsCommandLine words
is_command_line (Get target) words (is, fits) = subst IsCommandLine (sym is) (n.Get, (refl, fits))
is_command_line Check words is = subst IsCommandLine (sym is) (n.Check, (refl, tt))
is_command_line CheckEager words is = subst IsCommandLine (sym is) (n.Check, (refl, refl))
is_command_line Tree words is = subst IsCommandLine (sym is) (n.Tree, (refl, refl))
is_command_line Replay words is = subst IsCommandLine (sym is) (n.Replay, (refl, refl))
is_command_line (Demo number) words (word, is, reads) =
    subst IsCommandLine (sym is) (n.Demo, (refl, (number, reads)))
is_command_line (Serve address workers connections) words (word, rest, is, some, reads, more) =
    subst IsCommandLine (sym is)
    (n.Serve, (refl, (some, (workers, reads), are_connections connections rest more)))
