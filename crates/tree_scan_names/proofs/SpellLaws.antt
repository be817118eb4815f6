-- A path spells one list of names.
use Rattle.std.proofs.Common.{◌≡◌, ℕ, List, [], ◌∷◌, ◌++◌, refl, true, false, cond, sym, ap, subst, ◌∙◌, inl, inr}
use Rattle.std.proofs.lemmas.List.{append_cancel_right, append_assoc}
use Rattle.std.specs.List.{list_all}
use Rattle.app_config.specs.Paths.{is_constant}
use Rattle.app_config.specs.declared.config.Config.{Config}
use Rattle.plain_text.specs.Segments.{IsPiece}
use Rattle.tree_scan_names.specs.Camel.{IsCamelized}
use Rattle.tree_scan_names.specs.Below.{within, ruby_ending, EndsInRb, IsCollapsed, SpellsBelow, AddsDirectory}
use Rattle.tree_scan_names.specs.Below.SpellsBelow.{file, named, collapsed}
use Rattle.tree_scan_names.specs.Counts.{Counts, IsPassedOver}
use Rattle.tree_scan_names.specs.Spellings.{IsSpelling, AreConstants}
use Rattle.tree_scan_names.specs.declared.spelling.Spelling.{Spelling}
use Rattle.tree_scan_names.specs.declared.spelling.Spelling.TheVariants.{Names, Nothing, BadName}
use Rattle.tree_scan_names.proofs.CamelLaws.{IsCamelized-same}
use Rattle.tree_scan_names.proofs.WithinLaws.{no_slash, cut_one, file_piece, piece_front, EndsInRb-within}

file_within : (base here below path : List ℕ) → IsPiece base → base ++ ruby_ending ≡ within here below → ⊥
file_within base here below path piece e = no_slash (base ++ ruby_ending) here below (file_piece base piece) e

clash : (config : Config) (directory here other next : List ℕ) → directory ≡ other → here ≡ next →
    (¬ IsCollapsed config (within directory here)) → IsCollapsed config (within other next) → ⊥
clash config directory here other next e f none is =
    let P : List ℕ → Type 0 = λ x. IsCollapsed config x in
    none (subst P (sym (ap (λ d. within d here) e ∙ ap (within other) f)) is)

names-same : {config : Config} {directory below other rest : List ℕ} {names seconds : List (List ℕ)} →
    SpellsBelow config directory below names → SpellsBelow config other rest seconds →
    directory ≡ other → below ≡ rest → names ≡ seconds
names-same (file directory {base = base} piece name) (file other {base = base'} piece' name') d e =
    ap (λ n. n ∷ []) (IsCamelized-same name name' (append_cancel_right base base' ruby_ending e))
names-same (file directory {base = base} piece name) (named other here {below = below} piece' none' name' more') d
    e = absurd (file_within base here below [] piece e)
names-same (file directory {base = base} piece name) (collapsed other here {below = below} piece' is' more') d e =
    absurd (file_within base here below [] piece e)
names-same (named directory here {below = below} piece none name more) (file other {base = base} piece' name') d e =
    absurd (file_within base here below [] piece' (sym e))
names-same (named directory here {below = below} {name = n} {names = names} piece none name more)
    (named other next {below = rest} {name = n'} {names = names'} piece' none' name' more') d e =
    let cut = cut_one here below next rest piece piece' e in
    let first : n ≡ n' = IsCamelized-same name name' cut.0 in
    let others : names ≡ names' = names-same more more' (ap (λ x. within x here) d ∙ ap (within other) cut.0) cut.1 in
    cc
names-same {config} (named directory here {below = below} piece none name more)
    (collapsed other next {below = rest} piece' is' more') d e =
    absurd (clash config directory here other next d (cut_one here below next rest piece piece' e).0 none is')
names-same (collapsed directory here {below = below} piece is more) (file other {base = base} piece' name') d e =
    absurd (file_within base here below [] piece' (sym e))
names-same {config} (collapsed directory here {below = below} piece is more)
    (named other next {below = rest} piece' none' name' more') d e =
    absurd (clash config other next directory here (sym d) (sym (cut_one here below next rest piece piece' e).0)
    none' is)
names-same (collapsed directory here {below = below} piece is more)
    (collapsed other next {below = rest} piece' is' more') d e =
    let cut = cut_one here below next rest piece piece' e in
    names-same more more' (ap (λ x. within x here) d ∙ ap (within other) cut.0) cut.1

-- a path spells one list of names at most
pub SpellsBelow-one : (config : Config) (directory below : List ℕ) (names others : List (List ℕ)) →
    SpellsBelow config directory below names → SpellsBelow config directory below others → others ≡ names
SpellsBelow-one config directory below names others h k = names-same k h refl refl

-- A step from a directory.

-- a step into a directory: its name is added unless it is collapsed
pub spells-step : (config : Config) (directory here left place rest : List ℕ) (before after more : List (List ℕ))
    (whole : List (List ℕ) → Type 0) → IsPiece here → left ≡ within here rest → place ≡ within directory here →
    AddsDirectory config place here before after →
    ((all : List (List ℕ)) → SpellsBelow config directory left all → whole (before ++ all)) →
    SpellsBelow config place rest more → whole (after ++ more)
spells-step config directory here left place rest before after more whole piece e f adds known spells =
    let P : List ℕ → List ℕ → Type 0 = λ d x. SpellsBelow config d x more in
    let C : List ℕ → Type 0 = λ x. IsCollapsed config x in
    let inside : SpellsBelow config (within directory here) rest more =
    (let Q : List ℕ → Type 0 = λ x. SpellsBelow config x rest more in subst Q f spells) in
    elim adds [
      | inl skips ↦
          let all : SpellsBelow config directory (within here rest) more =
          collapsed directory here piece (subst C f skips.0) inside in
          let L : List ℕ → Type 0 = λ x. SpellsBelow config directory x more in
          let W : List (List ℕ) → Type 0 = λ x. whole (x ++ more) in
          subst W (sym skips.1) (known more (subst L (sym e) all))
      | inr gains ↦
          let name : List ℕ = gains.1.0 in
          let all : SpellsBelow config directory (within here rest) (name ∷ more) =
          named directory here piece (λ is. gains.0 (subst C (sym f) is)) gains.1.1 inside in
          let L : List ℕ → Type 0 = λ x. SpellsBelow config directory x (name ∷ more) in
          let same : before ++ (name ∷ more) ≡ after ++ more = sym (append_assoc before (name ∷ []) more)
          ∙ ap (λ x. x ++ more) (sym gains.1.2) in
          subst whole same (known (name ∷ more) (subst L (sym e) all))
    ]

-- a file spells its base below its directory
pub spells-file : (config : Config) (directory left here base name : List ℕ) → IsPiece here → left ≡ here →
    here ≡ base ++ ruby_ending → IsCamelized config base name → SpellsBelow config directory left (name ∷ [])
spells-file config directory left here base name piece e f camel =
    let P : List ℕ → Type 0 = λ x. IsPiece x in
    let L : List ℕ → Type 0 = λ x. SpellsBelow config directory x (name ∷ []) in
    subst L (sym (e ∙ f)) (file directory (piece_front base ruby_ending (subst P f piece)) camel)

-- What a path counts for.

SpellsBelow-ends : {config : Config} {directory below : List ℕ} {names : List (List ℕ)} →
    SpellsBelow config directory below names → EndsInRb below
SpellsBelow-ends (file directory {base = base} piece name) = (base, refl)
SpellsBelow-ends (named directory here {below = below} piece none name more) =
    EndsInRb-within here below (SpellsBelow-ends more)
SpellsBelow-ends (collapsed directory here {below = below} piece is more) =
    EndsInRb-within here below (SpellsBelow-ends more)

judged-is : (config : Config) (root below : List ℕ) (names : List (List ℕ)) → Counts config root below →
    SpellsBelow config root below names →
    IsSpelling config root below (cond (list_all is_constant names) (Names names) BadName)
judged-is config root below names counts spells =
    elim (list_all is_constant names) as (λ v. list_all is_constant names ≡ v →
    IsSpelling config root below (cond v (Names names) BadName)) [
      | true ↦ λ e. (counts, spells, e)
      | false ↦ λ e. (counts, (names, spells, λ h. cc (e, h)))
    ] refl

-- the names of a file that counts are its spelling, or a fault
pub IsSpelling-judged : (config : Config) (root below top rest : List ℕ) (names : List (List ℕ))
    (spelling : Spelling) → top ≡ root → rest ≡ below → ¬ IsPassedOver config top rest →
    SpellsBelow config top rest names → spelling ≡ cond (list_all is_constant names) (Names names) BadName →
    IsSpelling config root below spelling
IsSpelling-judged config root below top rest names spelling e f none spells is =
    let S : Spelling → Type 0 = λ x. IsSpelling config root below x in
    let T : List ℕ → Type 0 = λ x. ¬ IsPassedOver config x rest in
    let R : List ℕ → Type 0 = λ x. ¬ IsPassedOver config root x in
    let U : List ℕ → Type 0 = λ x. SpellsBelow config x rest names in
    let V : List ℕ → Type 0 = λ x. SpellsBelow config root x names in
    let here : SpellsBelow config root below names = subst V f (subst U e spells) in
    let counted : ¬ IsPassedOver config root below = subst R f (subst T e none) in
    subst S (sym is) (judged-is config root below names
    (record { ruby = SpellsBelow-ends here; shown = λ h. counted (inl h); kept = λ h. counted (inr h) }) here)

nothing_counts : {config : Config} {root below : List ℕ} → Counts config root below →
    IsSpelling config root below Nothing → ⊥
nothing_counts counts h =
    elim h [
      | inl lacks ↦ lacks counts.ruby
      | inr passed ↦ elim passed [ inl hidden ↦ counts.shown hidden | inr ignored ↦ counts.kept ignored ]
    ]

bad_and_good : {config : Config} {root below : List ℕ} (names : List (List ℕ)) →
    IsSpelling config root below (Names names) → IsSpelling config root below BadName → ⊥
bad_and_good {config} {root} {below} names good (counts, (others, spells, bad)) =
    let P : List (List ℕ) → Type 0 = λ x. AreConstants x in
    bad (subst P (sym (SpellsBelow-one config root below names others good.1 spells)) good.2)

-- a path counts for one thing
pub IsSpelling-one : (config : Config) (root below : List ℕ) (spelling other : Spelling) →
    IsSpelling config root below spelling → IsSpelling config root below other → other ≡ spelling
IsSpelling-one config root below (Names names) (Names others) h k =
    ap Names (SpellsBelow-one config root below names others h.1 k.1)
IsSpelling-one config root below (Names names) Nothing h k = absurd (nothing_counts h.0 k)
IsSpelling-one config root below (Names names) BadName h k = absurd (bad_and_good names h k)
IsSpelling-one config root below Nothing (Names others) h k = absurd (nothing_counts k.0 h)
IsSpelling-one config root below Nothing Nothing h k = refl
IsSpelling-one config root below Nothing BadName h k = absurd (nothing_counts k.0 h)
IsSpelling-one config root below BadName (Names others) h k = absurd (bad_and_good others k h)
IsSpelling-one config root below BadName Nothing h k = absurd (nothing_counts h.0 k)
IsSpelling-one config root below BadName BadName h k = refl
