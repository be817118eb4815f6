-- The program of no files is one.
use Rattle.std.proofs.Common.{◌≡◌, ℕ, zero, List, [], ◌∷◌, Option, refl, ap, ◌∙◌, arith, Contains}
use Rattle.std.proofs.lemmas.Option.{none-some}
use Rattle.app_config.specs.Configuration.{configuration}
use Rattle.app_config.specs.declared.config.Config.{Config}
use Rattle.outside.specs.declared.files.FileEntry.{FileEntry}
use Rattle.tree_scan.specs.Scanned.{Scanned}
use Rattle.tree_scan.specs.Sites.{AreSites}
use Rattle.tree_scan_sites.specs.declared.spelled.Spelled.{Spelled}
use Rattle.ruby_nodes.specs.Entries.{Entry}
use Rattle.program_used.specs.declared.used.UsedText.{UsedText}
use Rattle.program_texts.specs.Read.{AreReadOf}
use Rattle.program_index.specs.Content.{Content}
use Rattle.program_index.specs.Program.{IsProgram, empty_program}

no_elements : {A : Type 0} (xs : List A) → ((x : A) → Contains xs x → ⊥) → xs ≡ []
no_elements [] h = refl
no_elements (x ∷ xs) h = absurd (h x (zero, omega arith, refl))

no_texts : (rows : List (Option UsedText)) → AreReadOf [] rows → rows ≡ []
no_texts [] h = refl
no_texts (r ∷ rows) h = absurd h

no_spelled : (config : Config) (sites : Scanned) → AreSites [] config sites → sites.spelled ≡ []
no_spelled config sites h = no_elements sites.spelled (λ s c.
    let k = (h.spelled s.constant s.root s.file).0 c in none-some k.entry k.stands)

no_shadowed : (config : Config) (sites : Scanned) → AreSites [] config sites → sites.shadowed ≡ []
no_shadowed config sites h = no_elements sites.shadowed (λ path c.
    let k = (h.shadowed.exact path).0 c in none-some k.1.0 k.1.1)

abbrev made : List FileEntry → Config → Scanned → List (Option UsedText) → List Entry → Content
made files config sites texts nodes =
    record { files = files; config = config; sites = sites; texts = texts; nodes = nodes }

abbrev sited : List Spelled → List (List ℕ) → Scanned
sited spelled shadowed = record { spelled = spelled; shadowed = shadowed }

-- a program of no files is the empty one
pub empty_told : (p : Content) → IsProgram [] p → p ≡ empty_program
empty_told p is =
    ap (λ x. made x p.config p.sites p.texts p.nodes) is.same
    ∙ ap (λ x. made [] x p.sites p.texts p.nodes) is.configured.1
    ∙ ap (λ x. made [] (configuration []) (sited x p.sites.shadowed) p.texts p.nodes)
    (no_spelled p.config p.sites is.sited)
    ∙ ap (λ x. made [] (configuration []) (sited [] x) p.texts p.nodes) (no_shadowed p.config p.sites is.sited)
    ∙ ap (λ x. made [] (configuration []) (sited [] []) x p.nodes) (no_texts p.texts is.are_read)
    ∙ ap (made [] (configuration []) (sited [] []) []) (is.bare refl)
