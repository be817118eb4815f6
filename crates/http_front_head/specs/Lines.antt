-- The lines of what may become a head, and whether it ends inside a target.
use Rattle.std.specs.Prelude.{ℕ, zero, suc, ◌==◌, List, [], ◌∷◌, if◌then◌else◌}
use Rattle.http_front_head.specs.declared.scan.Stage.{Stage}
use Rattle.http_front_head.specs.declared.scan.Stage.TheVariants.{Blank, AfterCr, Method, Target, Lost}
use Rattle.httparse.specs.Grammar.{is_token_byte, is_uri_byte}
use Rattle.httparse.specs.Pieces.{is_newline}

-- how many LF there are
abbrev pub feeds : List ℕ → ℕ
feeds [] = 0
feeds (b ∷ t) = if b == 10 then suc (feeds t) else feeds t

-- The number of lines, each ended by LF, from the first byte on that is neither CR nor LF.
abbrev pub line_count : List ℕ → ℕ
line_count [] = 0
line_count (b ∷ t) = if is_newline b then line_count t else feeds (b ∷ t)

-- how many bytes the first n lines have, or all of the bytes where there are fewer
abbrev pub lines_end : ℕ → List ℕ → ℕ
lines_end zero t = 0
lines_end (suc n) [] = 0
lines_end (suc n) (b ∷ t) = if b == 10 then suc (lines_end n t) else suc (lines_end (suc n) t)

-- how many bytes stand up to the end of the n-th line, from the first on that is neither CR nor LF
abbrev pub head_end : ℕ → List ℕ → ℕ
head_end n [] = 0
head_end n (b ∷ t) = if is_newline b then suc (head_end n t) else lines_end n (b ∷ t)

-- where a byte leads: over empty lines, a method, a space and a target
abbrev pub next_stage : Stage → ℕ → Stage
next_stage Blank b =
    if b == 10 then Blank else (if b == 13 then AfterCr else (if is_token_byte b then Method else Lost))
next_stage AfterCr b = if b == 10 then Blank else Lost
next_stage Method b = if b == 32 then Target else (if is_token_byte b then Method else Lost)
next_stage Target b = if is_uri_byte b then Target else Lost
next_stage Lost b = Lost

-- where bytes lead
abbrev pub last_stage : Stage → List ℕ → Stage
last_stage p [] = p
last_stage p (b ∷ t) = last_stage (next_stage p b) t
