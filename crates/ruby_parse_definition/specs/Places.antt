-- Where a definition stands, as the code has it.
use Rattle.std.specs.Prelude.{false}
use Rattle.ruby_grammar.specs.Rules.{Body}
use Rattle.ruby_grammar.specs.Definitions.{body}
use Rattle.ruby_parse_marks.specs.Views.{Noted}
use Rattle.ruby_parse_definition.specs.declared.place.Place.{Place}

-- the place's levels, in the innermost module or class that is noted
abbrev pub body_view : Place → Noted → Body
body_view p v = body p.levels false v.here
