-- What is left of a configuration while its text is read.
use Rattle.std.proofs.Common.{◌≡◌, ◌≢◌, ◌+◌, ◌<◌, ◌≤◌, ℕ, suc, zero, true, false, List, [], ◌∷◌, ◌++◌, length, take}
use Rattle.std.proofs.Common.{drop, get_or, map, refl, sym, ap, subst, ◌∙◌, arith}
use Rattle.std.specs.Prelude.{Option, Some, None, Result, Ok, Err, IsOk, MatchOption, is_some}
use Rattle.std.proofs.lemmas.List.{append_assoc, take-append-drop, drop_more}
use Rattle.std.proofs.lemmas.Bool.{false≢true}
use denote.Ref.{Bor}
use Rattle.app_config.specs.Inflections.{LacksBase, IsLastFor}
use Rattle.app_config.specs.Text.{split, without_return}
use Rattle.app_config.specs.Loops.Left.{parts_left, size_left}
use Rattle.app_config.specs.Entries.{meaning}
use Rattle.app_config.specs.Configuration.{collected, entries, entry_said, fault_said, faults_from, with_entry}
use Rattle.app_config.specs.Configuration.{with_said, IsFirst}
use Rattle.app_config.specs.declared.entries.Entry.{Entry}
use Rattle.app_config.specs.declared.entries.Entry.TheVariants.{Root, Collapse, Ignore, SkipEager, Inflect, OnLoad}
use Rattle.app_config.specs.declared.config.Config.{Config}
use Rattle.app_config.specs.declared.config.ConfigFault.{ConfigFault}
use Rattle.app_config.specs.declared.config.ConfigKind.{ConfigKind}

-- The last pair of a base.

-- a pair with the base behind which none has it gives the last constant of the base
pub IsLastFor-at : (pairs : List (List ℕ × List ℕ)) (n : ℕ) (base constant : List ℕ) (d : List ℕ × List ℕ) →
    n < length pairs → get_or pairs n d ≡ (base, constant) → LacksBase (drop (n + 1) pairs) base →
    IsLastFor pairs base constant
IsLastFor-at pairs n base constant d within here later = record {
  earlier = take n pairs;
  later = drop (n + 1) pairs;
  stands = sym (take-append-drop n pairs)
      ∙ ap (λ x. take n pairs ++ x) (drop_more pairs n d within ∙ ap (λ x. x ∷ drop (n + 1) pairs) here);
  last = later;
}

LacksBase-cons : (pair : List ℕ × List ℕ) (pairs : List (List ℕ × List ℕ)) (base : List ℕ) → pair.0 ≢ base →
    LacksBase pairs base → LacksBase (pair ∷ pairs) base
LacksBase-cons pair pairs base here later zero d within = here
LacksBase-cons pair pairs base here later (suc k) d within = later k d (omega arith)

-- where a pair has another base and the later ones lack it, they all lack it
pub LacksBase-more : (pairs : List (List ℕ × List ℕ)) (n : ℕ) (base : List ℕ) (d : List ℕ × List ℕ) →
    n < length pairs → (get_or pairs n d).0 ≢ base → LacksBase (drop (n + 1) pairs) base → LacksBase (drop n pairs) base
LacksBase-more pairs n base d within here later =
    let P : List (List ℕ × List ℕ) → Type 0 = λ x. LacksBase x base in
    subst P (sym (drop_more pairs n d within)) (LacksBase-cons (get_or pairs n d) (drop (n + 1) pairs) base here later)

-- what a look at the pair before the later ones tells
pub found-last : (all pairs : List (List ℕ × List ℕ)) (n next : ℕ) (base : List ℕ) (pair : List ℕ × List ℕ)
    (found : Option (Bor (List ℕ))) → pairs ≡ all → n + 1 ≡ next → n < length pairs → pair ≡ get_or pairs n pair →
    MatchOption found (pair.0 ≢ base) (λ constant. pair ≡ (base, constant.now)) → is_some found ≡ true →
    LacksBase (drop next pairs) base →
    MatchOption found (LacksBase all base) (λ constant. IsLastFor all base constant.now)
found-last all pairs n next base pair None e m within here h t later = absurd (false≢true t)
found-last all pairs n next base pair (Some constant) e m within here h t later =
    rw (← e) (IsLastFor-at pairs n base constant.now pair within (sym here ∙ h) (rw m later))

-- what a look at a pair of another base tells
pub lacks-one_more : (pairs : List (List ℕ × List ℕ)) (n next : ℕ) (base : List ℕ) (pair : List ℕ × List ℕ)
    (found : Option (Bor (List ℕ))) → n + 1 ≡ next → n < length pairs → pair ≡ get_or pairs n pair →
    MatchOption found (pair.0 ≢ base) (λ constant. pair ≡ (base, constant.now)) → is_some found ≡ false →
    LacksBase (drop next pairs) base → LacksBase (drop n pairs) base
lacks-one_more pairs n next base pair None m within here h t later =
    LacksBase-more pairs n base pair within (rw (← here) h) (rw m later)
lacks-one_more pairs n next base pair (Some constant) m within here h t later = absurd (false≢true (sym t))

-- A configuration and what follows it.

-- the entries of two configurations, those of the first in front
abbrev pub joined : Config → Config → Config
joined front back = record {
  roots = front.roots ++ back.roots;
  collapse = front.collapse ++ back.collapse;
  ignore = front.ignore ++ back.ignore;
  inflect = front.inflect ++ back.inflect;
  on_load = front.on_load ++ back.on_load;
  skip_eager = front.skip_eager ++ back.skip_eager;
}

joined-entry : (config : Config) (entry : Entry) (more : List Entry) →
    joined (with_entry config entry) (collected more) ≡ joined config (collected (entry ∷ more))
joined-entry config (Root line) more = simp append_assoc
joined-entry config (Collapse pattern) more = simp append_assoc
joined-entry config (Ignore pattern) more = simp append_assoc
joined-entry config (SkipEager pattern) more = simp append_assoc
joined-entry config (Inflect pair) more = simp append_assoc
joined-entry config (OnLoad line) more = simp append_assoc

-- what a line says belongs to the configuration before it or to what follows it
pub joined-said : (config : Config) (said : Result (Option Entry) ConfigKind) (more : List Entry) →
    joined (with_said config said) (collected more) ≡ joined config (collected (entry_said said ++ more))
joined-said config (Ok None) more = refl
joined-said config (Ok (Some entry)) more = joined-entry config entry more
joined-said config (Err kind) more = refl

-- a line without a fault has none
pub fault_said-sound : (number : ℕ) (said : Result (Option Entry) ConfigKind) → IsOk said → fault_said number said ≡ []
fault_said-sound number (Ok said) h = refl
fault_said-sound number (Err kind) h = absurd (false≢true h)

-- A step to the next line.

parts_left-step : (byte : ℕ) (text line : List ℕ) (behind : Option (Bor (List ℕ))) →
    MatchOption behind (split byte text ≡ line ∷ []) (λ rest. split byte text ≡ line ∷ split byte rest.now) →
    split byte text ≡ line ∷ parts_left byte behind
parts_left-step byte text line None h = h
parts_left-step byte text line (Some rest) h = h

-- the lines that are left, by the first of them and those behind it
pub lines_left-step : (text : Bor (List ℕ)) (rest behind : Option (Bor (List ℕ))) (line trimmed : List ℕ) →
    rest ≡ Some text →
    MatchOption behind (split 10 text.now ≡ line ∷ []) (λ more. split 10 text.now ≡ line ∷ split 10 more.now) →
    trimmed ≡ without_return line →
    map without_return (parts_left 10 rest) ≡ trimmed ∷ map without_return (parts_left 10 behind)
lines_left-step text rest behind line trimmed e parts t =
    ap (λ r. map without_return (parts_left 10 r)) e
    ∙ (ap (map without_return) (parts_left-step 10 text.now line behind parts)
    ∙ ap (λ x. x ∷ map without_return (parts_left 10 behind)) (sym t))

-- the bound on what is left falls with each part
pub size_left-step : (text line : List ℕ) (behind : Option (Bor (List ℕ))) →
    MatchOption behind (length line ≡ length text) (λ rest. length line + length rest.now + 1 ≡ length text) →
    size_left behind ≤ length text
size_left-step text line None h = omega arith
size_left-step text line (Some rest) h = omega arith

-- a step to the next line keeps the whole configuration
pub config-step : (all config added : Config) (left more : List (List ℕ)) (line : List ℕ) → left ≡ line ∷ more →
    added ≡ with_said config (meaning line) → joined config (collected (entries left)) ≡ all →
    joined added (collected (entries more)) ≡ all
config-step all config added left more line next e inv =
    ap (λ c. joined c (collected (entries more))) e
    ∙ (joined-said config (meaning line) (entries more)
    ∙ (ap (λ lines. joined config (collected (entries lines))) (sym next) ∙ inv))

-- a step past a sound line keeps the faults
pub faults-step : (all : List ConfigFault) (number : ℕ) (left more : List (List ℕ)) (line : List ℕ) →
    left ≡ line ∷ more → IsOk (meaning line) → faults_from number left ≡ all → faults_from (number + 1) more ≡ all
faults-step all number left more line next sound inv =
    ap (λ front. front ++ faults_from (number + 1) more) (sym (fault_said-sound number (meaning line) sound))
    ∙ (ap (faults_from number) (sym next) ∙ inv)

-- the first fault is that of the line at hand, where those before it have none
pub faults-first : (all : List ConfigFault) (number : ℕ) (kind : ConfigKind) (left more : List (List ℕ))
    (line : List ℕ) → left ≡ line ∷ more → meaning line ≡ Err kind → faults_from number left ≡ all →
    IsFirst (record { line = number; kind = kind }) all
faults-first all number kind left more line next e inv = (
  faults_from (number + 1) more,
  sym inv
      ∙ (ap (faults_from number) next ∙ ap (λ said. fault_said number said ++ faults_from (number + 1) more) e),
)
