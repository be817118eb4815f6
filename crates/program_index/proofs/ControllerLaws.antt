-- The constant name that a configuration gives a base, and the constant of a request's segments.
use Rattle.std.proofs.Common.{◌≡◌, ◌≢◌, Bool, true, false, cond, List, [], ◌∷◌}
use Rattle.std.proofs.Common.{Option, Some, None, Result, Ok, Err}
use Rattle.std.proofs.Common.{refl, sym, ap, ◌∙◌, ℕ, bytes_eq, arith}
use Rattle.std.specs.Prelude.{IfOk}
use Rattle.std.specs.Cmp.Lexicographic.{bytes_decides}
use Rattle.std.proofs.lemmas.Bool.{false≢true}
use Rattle.std.proofs.lemmas.List.Elements.{All-cons}
use Rattle.app_config.specs.Inflections.{LacksBase, IsLastFor}
use Rattle.app_config.specs.declared.config.Config.{Config}
use Rattle.tree_scan_names.specs.Camel.{IsCamelized, overridden, plain}
use Rattle.program_places.specs.Paths.{Name}
use Rattle.program_index.specs.Controllers.{or_later, inflected, camelized_or, camelized_by}
use Rattle.program_index.specs.Controllers.{controller_of, segment_name}
use Rattle.program_index.specs.Controllers.{is_none}

abbrev Lines : Type 0
Lines = List (List ℕ × List ℕ)

-- what the lines say of a base: this constant, or nothing
abbrev Tells : Lines → List ℕ → Option (List ℕ) → Type 0
Tells lines base None = LacksBase lines base
Tells lines base (Some constant) = IsLastFor lines base constant

line_here : (line : List ℕ × List ℕ) (lines : Lines) (base : List ℕ) (b : Bool) → bytes_eq line.0 base ≡ b →
    LacksBase lines base → Tells (line ∷ lines) base (cond b (Some line.1) None)
line_here line lines base true e h = record {
  earlier = [];
  later = lines;
  stands = ap (λ (x : List ℕ). (x, line.1) ∷ lines) ((bytes_decides line.0 base).0 e);
  last = h;
}
line_here line lines base false e h =
    All-cons (λ (pair : List ℕ × List ℕ). pair.0 ≢ base) line lines
    (λ same. false≢true (sym e ∙ (bytes_decides line.0 base).1 same)) h

line_behind : (line : List ℕ × List ℕ) (lines : Lines) (base : List ℕ) (o : Option (List ℕ)) → Tells lines base o →
    Tells (line ∷ lines) base (or_later (cond (bytes_eq line.0 base) (Some line.1) None) o)
line_behind line lines base None h = line_here line lines base (bytes_eq line.0 base) refl h
line_behind line lines base (Some constant) h = record {
  earlier = line ∷ h.earlier;
  later = h.later;
  stands = ap (λ xs. line ∷ xs) h.stands;
  last = h.last;
}

lines_tell : (lines : Lines) (base : List ℕ) → Tells lines base (inflected lines base)
lines_tell [] base = λ k d lt. absurd (omega (arith, lt))
lines_tell (line ∷ lines) base = line_behind line lines base (inflected lines base) (lines_tell lines base)

camelized_at : (config : Config) (base : List ℕ) (o : Option (List ℕ)) → Tells config.inflect base o →
    IsCamelized config base (camelized_or o base)
camelized_at config base None h = plain base h
camelized_at config base (Some constant) h = overridden h

-- what is told of a base is its constant name
pub camelized_is : (config : Config) (base : List ℕ) → IsCamelized config base (camelized_by config base)
camelized_is config base =
    camelized_at config base (inflected config.inflect base) (lines_tell config.inflect base)

-- the one constant name of a base is what is told of it
pub camelized_told : {E : Type 0} (config : Config) (base : List ℕ) (r : Result (List ℕ) E) →
    IfOk r (λ name. (other : List ℕ) → IsCamelized config base other → other ≡ name) →
    IfOk r (λ name. name ≡ camelized_by config base)
camelized_told config base (Ok name) h = sym (h (camelized_by config base) (camelized_is config base))
camelized_told config base (Err e) h = h

-- a segment's name and those behind it
pub controller_step : (config : Config) (segment : Name) (behind : List Name) →
    controller_of config (segment ∷ behind) ≡ segment_name config (is_none behind) segment ∷ controller_of config behind
controller_step config segment [] = refl
controller_step config segment (next ∷ behind) = refl
