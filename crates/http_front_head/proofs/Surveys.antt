-- Header lines that are read one after another say what they say together.
use Rattle.std.proofs.Common.{◌≡◌, ◌||◌, ◌&&◌, ℕ, Bool, true, false, List, [], ◌∷◌, refl, sym, ap, ◌∙◌, map, take}
use Rattle.std.proofs.Common.{◌≤◌, Some, None, length, drop, arith, length-take}
use Rattle.std.proofs.lemmas.List.{length-map}
use Rattle.std.specs.Prelude.{if◌then◌else◌}
use Rattle.std.specs.List.{list_any}
use Rattle.httparse.specs.Grammar.{RequestHead}
use Rattle.httparse.specs.declared.spans.HeaderSpan.{HeaderSpan}
use Rattle.httparse.specs.declared.spans.RequestSpans.{RequestSpans}
use Rattle.httparse.specs.Spans.{span_bytes, header_bytes, name_and_value, IsRequestAt, IsRequestWithin, IsRequestOf}
use Rattle.http_front_head.specs.declared.survey.Survey.{Survey}
use Rattle.http_front_head.specs.declared.parts.HeadParts.{HeadParts}
use Rattle.http_front_head.specs.declared.parts.Verb.{Verb}
use Rattle.http_front_head.specs.Heads.{BeginsHead, BeginsFaultyHead, BeginsWholeHead}
use Rattle.http_front_head.specs.Parts.{verb_of}
use Rattle.http_front_head.specs.Parts.{Line, is_close_line, is_length_line, is_body_line, is_faulty_line}
use Rattle.http_front_head.specs.Parts.{closes, has_body, repeats_length, has_faulty_length, parts_of, judged, judge}
use Rattle.http_front_head.specs.Loops.Survey.{before_lines, with_line, with_lines}

or_later : (s x y : Bool) → ((s || x) || y) ≡ (s || (x || y))
or_later true x y = refl
or_later false x y = refl

or_nothing : (s : Bool) → s ≡ (s || false)
or_nothing true = refl
or_nothing false = refl

-- What closes: what was said, or some line.
pub close_of : (s : Survey) (lines : List Line) → (with_lines s lines).close ≡ (s.close || list_any is_close_line lines)
close_of s [] = or_nothing s.close
close_of s (l ∷ lines) =
    close_of (with_line s l) lines ∙ or_later s.close (is_close_line l) (list_any is_close_line lines)

-- What announces a body.
pub body_of : (s : Survey) (lines : List Line) → (with_lines s lines).body ≡ (s.body || list_any is_body_line lines)
body_of s [] = or_nothing s.body
body_of s (l ∷ lines) =
    body_of (with_line s l) lines ∙ or_later s.body (is_body_line l) (list_any is_body_line lines)

-- What gives a length that is no number.
pub faulty_of : (s : Survey) (lines : List Line)
    → (with_lines s lines).faulty ≡ (s.faulty || list_any is_faulty_line lines)
faulty_of s [] = or_nothing s.faulty
faulty_of s (l ∷ lines) =
    faulty_of (with_line s l) lines ∙ or_later s.faulty (is_faulty_line l) (list_any is_faulty_line lines)

one_repeated : (r h l a later : Bool)
    → ((r || (h && l)) || (((h || l) && a) || later)) ≡ (r || ((h && (l || a)) || ((l && a) || later)))
one_repeated true h l a later = refl
one_repeated false false l a later = refl
one_repeated false true true a later = refl
one_repeated false true false a later = refl

nothing_repeated : (r h : Bool) → r ≡ (r || ((h && false) || false))
nothing_repeated true h = refl
nothing_repeated false true = refl
nothing_repeated false false = refl

-- What gives a length again.
pub repeated_of : (s : Survey) (lines : List Line)
    → (with_lines s lines).repeated
    ≡ (s.repeated || ((s.length && list_any is_length_line lines) || repeats_length lines))
repeated_of s [] = nothing_repeated s.repeated s.length
repeated_of s (l ∷ lines) =
    repeated_of (with_line s l) lines
    ∙ one_repeated s.repeated s.length (is_length_line l) (list_any is_length_line lines) (repeats_length lines)

-- The connection closes.
pub survey_closes : (minor : ℕ) (lines : List Line)
    → (with_lines (before_lines minor) lines).close ≡ closes minor lines
survey_closes minor lines = close_of (before_lines minor) lines

-- A body is announced.
pub survey_has_body : (minor : ℕ) (lines : List Line)
    → (with_lines (before_lines minor) lines).body ≡ has_body lines
survey_has_body minor lines = body_of (before_lines minor) lines

-- The length of the body can't be told.
pub survey_is_faulty : (minor : ℕ) (lines : List Line)
    → ((with_lines (before_lines minor) lines).repeated || (with_lines (before_lines minor) lines).faulty)
    ≡ has_faulty_length lines
survey_is_faulty minor lines =
    ap (λ (r : Bool). r || (with_lines (before_lines minor) lines).faulty) (repeated_of (before_lines minor) lines)
    ∙ ap (λ (f : Bool). repeats_length lines || f) (faulty_of (before_lines minor) lines)

-- ---- the whole head

-- A head is judged by its parts where they stand in the bytes.
pub judge_at : (w : List ℕ) (headers : List HeaderSpan) (s : RequestSpans) (h : RequestHead) → IsRequestAt w headers s h
    → judge h ≡ judged (span_bytes w s.method) (span_bytes w s.path) s.version
    (map (header_bytes w) (take s.headers headers))
unfolding judge
judge_at w headers s h at =
    ap (λ (m : List ℕ). judged m h.target h.minor (map name_and_value h.fields)) (sym at.method)
    ∙ ap (λ (t : List ℕ). judged (span_bytes w s.method) t h.minor (map name_and_value h.fields)) (sym at.path)
    ∙ ap (λ (v : ℕ). judged (span_bytes w s.method) (span_bytes w s.path) v (map name_and_value h.fields))
    (sym at.version)
    ∙ ap (judged (span_bytes w s.method) (span_bytes w s.path) s.version) (sym at.fields)

-- A length at fault leaves nothing said.
pub judged_faulty : (method target : List ℕ) (minor : ℕ) (lines : List Line) → has_faulty_length lines ≡ true
    → judged method target minor lines ≡ None
judged_faulty method target minor lines e =
    ap (λ (f : Bool). if f then None else Some (parts_of method target minor lines)) e

-- Else the parts say it.
pub judged_clean : (method target : List ℕ) (minor : ℕ) (lines : List Line) → has_faulty_length lines ≡ false
    → judged method target minor lines ≡ Some (parts_of method target minor lines)
judged_clean method target minor lines e =
    ap (λ (f : Bool). if f then None else Some (parts_of method target minor lines)) e

fields_count : {A B C : Type 0} (f : A → C) (g : B → C) (n : ℕ) (xs : List A) (bs : List B) → n ≤ length xs
    → map f (take n xs) ≡ map g bs → n ≡ length bs
fields_count f g n xs bs fits e =
    omega (arith, ap length e, length-map (take n xs) f, length-map bs g, length-take n xs, fits)

begun_at : (w : List ℕ) (headers : List HeaderSpan) (s : RequestSpans) (h : RequestHead)
    → IsRequestWithin w headers s → IsRequestAt w headers s h → length headers ≡ 64 → BeginsHead w h
begun_at w headers s h within at room =
    let count =
    fields_count (header_bytes w) name_and_value s.headers headers h.fields within.section.count_fits at.fields in
    (drop s.len w, at.reads, omega (arith, count, within.section.count_fits, room))

-- A head whose survey finds a fault is faulty.
pub judged_bad : (w : List ℕ) (headers : List HeaderSpan) (s : RequestSpans) (seen : Survey)
    → IsRequestWithin w headers s → IsRequestOf w headers s → length headers ≡ 64
    → seen ≡ with_lines (before_lines s.version) (map (header_bytes w) (take s.headers headers))
    → (seen.repeated || seen.faulty) ≡ true → BeginsFaultyHead w
judged_bad w headers s seen within of room is_seen bad =
    let lines = map (header_bytes w) (take s.headers headers) in
    let fault : has_faulty_length lines ≡ true =
    sym (survey_is_faulty s.version lines) ∙ ap (λ (x : Survey). x.repeated || x.faulty) (sym is_seen) ∙ bad in (
      of.0,
      begun_at w headers s of.0 within of.1 room,
      judge_at w headers s of.0 of.1
          ∙ judged_faulty (span_bytes w s.method) (span_bytes w s.path) s.version lines fault,
    )

-- A head whose survey finds none is whole, and says what was found.
pub judged_whole : (w : List ℕ) (headers : List HeaderSpan) (s : RequestSpans) (seen : Survey) (verb : Verb)
    → (target : List ℕ) → IsRequestWithin w headers s → IsRequestOf w headers s → length headers ≡ 64
    → seen ≡ with_lines (before_lines s.version) (map (header_bytes w) (take s.headers headers))
    → (seen.repeated || seen.faulty) ≡ false → verb ≡ verb_of (span_bytes w s.method) → target ≡ span_bytes w s.path
    → BeginsWholeHead w s.len (record { verb = verb; target = target; close = seen.close; body = seen.body })
judged_whole w headers s seen verb target within of room is_seen clean is_verb is_target =
    let lines = map (header_bytes w) (take s.headers headers) in
    let fault : has_faulty_length lines ≡ false =
    sym (survey_is_faulty s.version lines) ∙ ap (λ (x : Survey). x.repeated || x.faulty) (sym is_seen) ∙ clean in
    let close : seen.close ≡ closes s.version lines =
    ap (λ (x : Survey). x.close) is_seen ∙ survey_closes s.version lines in
    let body : seen.body ≡ has_body lines = ap (λ (x : Survey). x.body) is_seen ∙ survey_has_body s.version lines in
    let parts : parts_of (span_bytes w s.method) (span_bytes w s.path) s.version lines
    ≡ record { verb = verb; target = target; close = seen.close; body = seen.body } =
    sym (λ i. record { verb = is_verb i; target = is_target i; close = close i; body = body i }) in (
      of.0,
      begun_at w headers s of.0 within of.1 room,
      judge_at w headers s of.0 of.1
          ∙ judged_clean (span_bytes w s.method) (span_bytes w s.path) s.version lines fault
          ∙ ap (λ (p : HeadParts). Some p) parts,
      of.1.len,
    )
