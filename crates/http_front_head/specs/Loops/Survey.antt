-- What header lines say, read one after another.
use Rattle.std.specs.Prelude.{◌==◌, ◌&&◌, ◌||◌, ℕ, false, List, [], ◌∷◌}
use Rattle.http_front_head.specs.declared.survey.Survey.{Survey}
use Rattle.http_front_head.specs.Parts.{Line, is_close_line, is_length_line, is_body_line, is_faulty_line}

-- nothing is read yet
abbrev pub before_lines : (minor : ℕ) → Survey
before_lines minor =
    record { close = minor == 0; body = false; length = false; repeated = false; faulty = false }

-- one line more
abbrev pub with_line : Survey → Line → Survey
with_line s line =
    record {
      close = s.close || is_close_line line;
      body = s.body || is_body_line line;
      length = s.length || is_length_line line;
      repeated = s.repeated || (s.length && is_length_line line);
      faulty = s.faulty || is_faulty_line line;
    }

-- all of them
abbrev pub with_lines : Survey → List Line → Survey
with_lines s [] = s
with_lines s (line ∷ lines) = with_lines (with_line s line) lines
