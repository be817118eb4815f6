-- Lines are counted, and bytes with many of them have too many header lines where they can become a head.
use Rattle.std.proofs.Common.{◌≡◌, ◌+◌, ◌-◌, ◌<◌, ◌≤◌, ◌==◌, ℕ, zero, suc, Bool, true, false, List, [], ◌∷◌, ◌++◌}
use Rattle.std.proofs.Common.{length, take, drop, refl, sym, ap, ◌∙◌, subst, arith, append_assoc, append-nil}
use Rattle.std.proofs.Common.{length-append, length-take, inl, inr}
use Rattle.std.specs.Prelude.{All, if◌then◌else◌}
use Rattle.std.specs.List.{flat_map}
use Rattle.std.proofs.lemmas.Bool.{false≢true, ne_eqb, cases_lt}
use Rattle.std.proofs.lemmas.List.Elements.{All-head, All-tail, All-take}
use Rattle.std.proofs.lemmas.List.{take-append-le, take-append-drop, take_all, drop_all}
use Rattle.std.proofs.lemmas.Grind.{flat_map-append}
use Rattle.httparse.specs.Grammar.{is_token_byte, is_uri_byte, is_value_byte, AllPass, LineEnd, crlf, lf, print_end}
use Rattle.httparse.specs.Grammar.{print_blank, print_version, Field, print_field, IsField, IsRequestHead, RequestHead}
use Rattle.httparse.specs.Grammar.{print_request, ReadsRequest, HasNoRequest, MayBecomeRequest, EndsInTarget}
use Rattle.httparse.specs.Pieces.{Stops, is_newline}
use Rattle.httparse.specs.Spans.{RequestExceeds, RequestOverflows}
use Rattle.httparse.proofs.PieceLemmas.{Stops_token, print_field-append}
use Rattle.httparse.proofs.GrammarLemmas.{cons-append, request_unique, ReadsRequest-append}
use Rattle.http_front_head.specs.Lines.{feeds, line_count, lines_end, head_end}
use Rattle.http_front_head.specs.Heads.{IsOpen}
use Rattle.http_front_head.proofs.Shapes.{up_to_fields, print_parts, exceeds_front, exceeds_append}

-- ---- bytes without LF

other_byte : (test : ℕ → Bool) → test 10 ≡ false → (b : ℕ) (l : List ℕ) → AllPass test (b ∷ l) → (b == 10) ≡ false
other_byte test fails b l all =
    ne_eqb b 10 (λ e. false≢true (sym fails ∙ ap test (sym e) ∙ All-head (λ v. test v ≡ true) b l all))

-- Bytes of a class without LF have no line's end.
pub run_lines_end : (test : ℕ → Bool) → test 10 ≡ false → (n : ℕ) (l t : List ℕ) → AllPass test l
    → lines_end (suc n) (l ++ t) ≡ length l + lines_end (suc n) t
run_lines_end test fails n [] t all = omega arith
run_lines_end test fails n (b ∷ l) t all =
    let other = other_byte test fails b l all in
    let tail = run_lines_end test fails n l t (All-tail (λ v. test v ≡ true) b l all) in
    rw other (omega (arith, tail))

-- They have no LF.
pub run_feeds : (test : ℕ → Bool) → test 10 ≡ false → (l t : List ℕ) → AllPass test l → feeds (l ++ t) ≡ feeds t
run_feeds test fails [] t all = refl
run_feeds test fails (b ∷ l) t all =
    let other = other_byte test fails b l all in
    rw other (run_feeds test fails l t (All-tail (λ v. test v ≡ true) b l all))

-- LF ends no token.
pub token_has_no_feed : is_token_byte 10 ≡ false
unfolding is_token_byte
token_has_no_feed = refl

-- ---- the parts of a head

end_lines_end : (n : ℕ) (e : LineEnd) (t : List ℕ)
    → lines_end (suc n) (print_end e ++ t) ≡ length (print_end e) + lines_end n t
end_lines_end n crlf t = omega arith
end_lines_end n lf t = omega arith

end_feeds : (e : LineEnd) (t : List ℕ) → feeds (print_end e ++ t) ≡ suc (feeds t)
end_feeds crlf t = refl
end_feeds lf t = refl

version_lines_end : (n minor : ℕ) (t : List ℕ) → minor ≤ 1
    → lines_end (suc n) (print_version minor ++ t) ≡ length (print_version minor) + lines_end (suc n) t
version_lines_end n zero t low = omega arith
version_lines_end n (suc zero) t low = omega arith
version_lines_end n (suc (suc m)) t low = absurd (omega (arith, low))

version_feeds : (minor : ℕ) (t : List ℕ) → minor ≤ 1 → feeds (print_version minor ++ t) ≡ feeds t
version_feeds zero t low = refl
version_feeds (suc zero) t low = refl
version_feeds (suc (suc m)) t low = absurd (omega (arith, low))

field_lines_end : (n : ℕ) (f : Field) (t : List ℕ) → IsField f
    → lines_end (suc n) (print_field f ++ t) ≡ length (print_field f) + lines_end n t
field_lines_end n f t v =
    let behind = 58 ∷ (f.raw ++ (print_end f.end ++ t)) in
    let name = run_lines_end is_token_byte token_has_no_feed n f.name behind v.name.1 in
    let raw = run_lines_end is_value_byte refl n f.raw (print_end f.end ++ t) v.raw in
    let end = end_lines_end n f.end t in
    let size = sizes f.name f.raw (print_end f.end) in
    rw print_field-append (omega (arith, name, raw, end, size))
  where
    sizes : (a b c : List ℕ) → length (a ++ 58 ∷ b ++ c) ≡ length a + (length b + (length c + 1))
    sizes a b c =
        let row : a ++ 58 ∷ b ++ c ≡ a ++ (58 ∷ (b ++ c)) = simp (append_assoc, cons-append) in
        omega (arith, ap length row, length-append a (58 ∷ (b ++ c)), length-append b c)

field_feeds : (f : Field) (t : List ℕ) → IsField f → feeds (print_field f ++ t) ≡ suc (feeds t)
field_feeds f t v =
    ap feeds (print_field-append f t)
    ∙ run_feeds is_token_byte token_has_no_feed f.name (58 ∷ (f.raw ++ (print_end f.end ++ t))) v.name.1
    ∙ run_feeds is_value_byte refl f.raw (print_end f.end ++ t) v.raw
    ∙ end_feeds f.end t

fields_lines_end : (fs : List Field) (t : List ℕ) → All IsField fs
    → lines_end (length fs) (flat_map print_field fs ++ t) ≡ length (flat_map print_field fs)
fields_lines_end [] t v = refl
fields_lines_end (f ∷ fs) t v =
    let here = field_lines_end (length fs) f (flat_map print_field fs ++ t) (All-head IsField f fs v) in
    let tail = fields_lines_end fs t (All-tail IsField f fs v) in
    rw append_assoc (omega (arith, here, tail, length-append (print_field f) (flat_map print_field fs)))

fields_feeds : (fs : List Field) (t : List ℕ) → All IsField fs
    → feeds (flat_map print_field fs ++ t) ≡ length fs + feeds t
fields_feeds [] t v = omega arith
fields_feeds (f ∷ fs) t v =
    let here = field_feeds f (flat_map print_field fs ++ t) (All-head IsField f fs v) in
    let tail = fields_feeds fs t (All-tail IsField f fs v) in
    rw append_assoc (omega (arith, here, tail))

start_lines_end : (k : RequestHead) → IsRequestHead k → (n : ℕ) (m : List ℕ)
    → lines_end (suc n) (k.method ++ 32 ∷ (k.target ++ 32 ∷ (print_version k.minor ++ (print_end k.line_end ++ m))))
    ≡ length k.method + (length k.target + (length (print_version k.minor) + (length (print_end k.line_end) + 2)))
    + lines_end n m
start_lines_end k v n m =
    let after = print_version k.minor ++ (print_end k.line_end ++ m) in
    let method = run_lines_end is_token_byte token_has_no_feed n k.method (32 ∷ (k.target ++ 32 ∷ after)) v.method.1 in
    let target = run_lines_end is_uri_byte refl n k.target (32 ∷ after) v.target.1 in
    let version = version_lines_end n k.minor (print_end k.line_end ++ m) v.minor in
    let end = end_lines_end n k.line_end m in
    omega (arith, method, target, version, end)

start_feeds : (k : RequestHead) → IsRequestHead k → (m : List ℕ)
    → feeds (k.method ++ 32 ∷ (k.target ++ 32 ∷ (print_version k.minor ++ (print_end k.line_end ++ m)))) ≡ suc (feeds m)
start_feeds k v m =
    let after = print_version k.minor ++ (print_end k.line_end ++ m) in
    run_feeds is_token_byte token_has_no_feed k.method (32 ∷ (k.target ++ 32 ∷ after)) v.method.1
    ∙ run_feeds is_uri_byte refl k.target (32 ∷ after) v.target.1
    ∙ version_feeds k.minor (print_end k.line_end ++ m) v.minor
    ∙ end_feeds k.line_end m

blank_head_end : (es : List LineEnd) (n : ℕ) (t : List ℕ) → Stops is_newline t
    → head_end n (print_blank es ++ t) ≡ length (print_blank es) + lines_end n t
blank_head_end [] n [] s = absurd s
blank_head_end [] n (b ∷ t) s = let other : is_newline b ≡ false = s in rw other (omega arith)
blank_head_end (crlf ∷ es) n t s = let tail = blank_head_end es n t s in omega (arith, tail)
blank_head_end (lf ∷ es) n t s = let tail = blank_head_end es n t s in omega (arith, tail)

blank_line_count : (es : List LineEnd) (t : List ℕ) → Stops is_newline t → line_count (print_blank es ++ t) ≡ feeds t
blank_line_count [] [] s = absurd s
blank_line_count [] (b ∷ t) s = let other : is_newline b ≡ false = s in rw other refl
blank_line_count (crlf ∷ es) t s = blank_line_count es t s
blank_line_count (lf ∷ es) t s = blank_line_count es t s

regroup_front : (a b c d e f r : List ℕ)
    → (a ++ (b ++ 32 ∷ (c ++ 32 ∷ (d ++ (e ++ f))))) ++ r ≡ a ++ (b ++ 32 ∷ (c ++ 32 ∷ (d ++ (e ++ (f ++ r)))))
regroup_front a b c d e f r = simp (append_assoc, cons-append)

-- The lines of a start line and of the header lines end where the last line end begins.
pub front_head_end : (k : RequestHead) → IsRequestHead k → (s : List ℕ)
    → head_end (suc (length k.fields)) (up_to_fields k ++ s) ≡ length (up_to_fields k)
front_head_end k v s =
    let m = flat_map print_field k.fields ++ s in
    let row = regroup_front (print_blank k.blank) k.method k.target (print_version k.minor) (print_end k.line_end)
    (flat_map print_field k.fields) s in
    let line = k.method ++ 32 ∷ (k.target ++ 32 ∷ (print_version k.minor ++ (print_end k.line_end ++ m))) in
    let blank = blank_head_end k.blank (suc (length k.fields)) line (Stops_token k.method _ v.method.0 v.method.1) in
    let start = start_lines_end k v (length k.fields) m in
    let fields = fields_lines_end k.fields s v.fields in
    let size = sizes (print_blank k.blank) k.method k.target (print_version k.minor) (print_end k.line_end)
    (flat_map print_field k.fields) in
    rw row (omega (arith, blank, start, fields, size))
  where
    sizes : (a b c d e f : List ℕ)
        → length (a ++ (b ++ 32 ∷ (c ++ 32 ∷ (d ++ (e ++ f)))))
        ≡ length a + (length b + (length c + (length d + (length e + 2)))) + length f
    sizes a b c d e f =
        let l1 = length-append e f in
        let l2 = length-append d (e ++ f) in
        let l3 = length-append c (32 ∷ (d ++ (e ++ f))) in
        let l4 = length-append b (32 ∷ (c ++ 32 ∷ (d ++ (e ++ f)))) in
        let l5 = length-append a (b ++ 32 ∷ (c ++ 32 ∷ (d ++ (e ++ f)))) in
        omega (arith, l1, l2, l3, l4, l5)

-- They are one more than the header lines.
pub front_line_count : (k : RequestHead) → IsRequestHead k → (s : List ℕ)
    → line_count (up_to_fields k ++ s) ≡ suc (length k.fields) + feeds s
front_line_count k v s =
    let m = flat_map print_field k.fields ++ s in
    let row = regroup_front (print_blank k.blank) k.method k.target (print_version k.minor) (print_end k.line_end)
    (flat_map print_field k.fields) s in
    let line = k.method ++ 32 ∷ (k.target ++ 32 ∷ (print_version k.minor ++ (print_end k.line_end ++ m))) in
    let blank = blank_line_count k.blank line (Stops_token k.method _ v.method.0 v.method.1) in
    let start = start_feeds k v m in
    let fields = fields_feeds k.fields s v.fields in
    omega (arith, ap line_count row, blank, start, fields)

-- ---- lines of longer and of shorter bytes

one_feed : (b : ℕ) (t more : List ℕ) (is : Bool) → feeds (t ++ more) ≡ feeds t + feeds more
    → (if is then suc (feeds (t ++ more)) else feeds (t ++ more))
    ≡ (if is then suc (feeds t) else feeds t) + feeds more
one_feed b t more true e = omega (arith, e)
one_feed b t more false e = e

-- The LF of two texts are those of both.
pub feeds_append : (t more : List ℕ) → feeds (t ++ more) ≡ feeds t + feeds more
feeds_append [] more = omega arith
feeds_append (b ∷ t) more = one_feed b t more (b == 10) (feeds_append t more)

one_count : (b : ℕ) (t more : List ℕ) (is : Bool) → 1 ≤ (if is then line_count t else feeds (b ∷ t))
    → (1 ≤ line_count t → line_count (t ++ more) ≡ line_count t + feeds more)
    → (if is then line_count (t ++ more) else feeds (b ∷ (t ++ more)))
    ≡ (if is then line_count t else feeds (b ∷ t)) + feeds more
one_count b t more true some tail = tail some
one_count b t more false some tail = feeds_append (b ∷ t) more

-- Behind a line's end each LF ends one more.
pub line_count_append : (t more : List ℕ) → 1 ≤ line_count t → line_count (t ++ more) ≡ line_count t + feeds more
line_count_append [] more some = absurd (omega (arith, some))
line_count_append (b ∷ t) more some = one_count b t more (is_newline b) some (line_count_append t more)

one_lines_end : (n : ℕ) (t more : List ℕ) (is : Bool) → suc n ≤ (if is then suc (feeds t) else feeds t)
    → (n ≤ feeds t → lines_end n (t ++ more) ≡ lines_end n t)
    → (suc n ≤ feeds t → lines_end (suc n) (t ++ more) ≡ lines_end (suc n) t)
    → (if is then suc (lines_end n (t ++ more)) else suc (lines_end (suc n) (t ++ more)))
    ≡ (if is then suc (lines_end n t) else suc (lines_end (suc n) t))
one_lines_end n t more true some ended going = ap suc (ended (omega (arith, some)))
one_lines_end n t more false some ended going = ap suc (going some)

-- Lines that are there end where they ended, whatever follows.
pub lines_end_append : (n : ℕ) (t more : List ℕ) → n ≤ feeds t → lines_end n (t ++ more) ≡ lines_end n t
lines_end_append zero t more some = refl
lines_end_append (suc n) [] more some = absurd (omega (arith, some))
lines_end_append (suc n) (b ∷ t) more some =
    one_lines_end n t more (b == 10) some (lines_end_append n t more) (lines_end_append (suc n) t more)

one_head_end : (n b : ℕ) (t more : List ℕ) (is : Bool) → suc n ≤ (if is then line_count t else feeds (b ∷ t))
    → (suc n ≤ line_count t → head_end (suc n) (t ++ more) ≡ head_end (suc n) t)
    → (if is then suc (head_end (suc n) (t ++ more)) else lines_end (suc n) (b ∷ (t ++ more)))
    ≡ (if is then suc (head_end (suc n) t) else lines_end (suc n) (b ∷ t))
one_head_end n b t more true some tail = ap suc (tail some)
one_head_end n b t more false some tail = lines_end_append (suc n) (b ∷ t) more some

-- The same, from the first byte on that is neither CR nor LF.
pub head_end_append : (n : ℕ) (t more : List ℕ) → suc n ≤ line_count t
    → head_end (suc n) (t ++ more) ≡ head_end (suc n) t
head_end_append n [] more some = absurd (omega (arith, some))
head_end_append n (b ∷ t) more some = one_head_end n b t more (is_newline b) some (head_end_append n t more)

either_fits : (a c size : ℕ) (is : Bool) → a ≤ size → c ≤ size → (if is then suc a else suc c) ≤ suc size
either_fits a c size true x y = omega (arith, x)
either_fits a c size false x y = omega (arith, y)

-- Lines end within the bytes.
pub lines_end_fits : (n : ℕ) (t : List ℕ) → lines_end n t ≤ length t
lines_end_fits zero t = omega arith
lines_end_fits (suc n) [] = omega arith
lines_end_fits (suc n) (b ∷ t) =
    either_fits (lines_end n t) (lines_end (suc n) t) (length t) (b == 10) (lines_end_fits n t)
    (lines_end_fits (suc n) t)

one_head_fits : (n b : ℕ) (t : List ℕ) (is : Bool) → head_end n t ≤ length t
    → (if is then suc (head_end n t) else lines_end n (b ∷ t)) ≤ suc (length t)
one_head_fits n b t true fits = omega (arith, fits)
one_head_fits n b t false fits = lines_end_fits n (b ∷ t)

-- The same, from the first byte on that is neither CR nor LF.
pub head_end_fits : (n : ℕ) (t : List ℕ) → head_end n t ≤ length t
head_end_fits n [] = omega arith
head_end_fits n (b ∷ t) = one_head_fits n b t (is_newline b) (head_end_fits n t)

-- The first lines, cut behind their last, are as many.
pub lines_taken : (n : ℕ) (t : List ℕ) → n ≤ feeds t → n ≤ feeds (take (lines_end n t) t)
lines_taken zero t some = omega arith
lines_taken (suc n) [] some = some
lines_taken (suc n) (b ∷ t) some =
    one_taken (b == 10) refl some (lines_taken n t) (lines_taken (suc n) t)
  where
    one_taken : (is : Bool) → (b == 10) ≡ is → suc n ≤ (if is then suc (feeds t) else feeds t)
        → (n ≤ feeds t → n ≤ feeds (take (lines_end n t) t))
        → (suc n ≤ feeds t → suc n ≤ feeds (take (lines_end (suc n) t) t))
        → suc n ≤ feeds (take (if is then suc (lines_end n t) else suc (lines_end (suc n) t)) (b ∷ t))
    one_taken true e some ended going = rw e (omega (arith, ended (omega (arith, some))))
    one_taken false e some ended going = rw e (going some)

-- The same, from the first byte on that is neither CR nor LF.
pub head_taken : (n : ℕ) (t : List ℕ) → suc n ≤ line_count t → suc n ≤ line_count (take (head_end (suc n) t) t)
head_taken n [] some = some
head_taken n (b ∷ t) some = one_taken (is_newline b) refl some (head_taken n t)
  where
    first_line : (size : ℕ) → is_newline b ≡ false → suc n ≤ feeds (take size (b ∷ t))
        → suc n ≤ line_count (take size (b ∷ t))
    first_line zero e many = many
    first_line (suc size) e many = rw e many

    one_taken : (is : Bool) → is_newline b ≡ is → suc n ≤ (if is then line_count t else feeds (b ∷ t))
        → (suc n ≤ line_count t → suc n ≤ line_count (take (head_end (suc n) t) t))
        → suc n ≤ line_count (take (if is then suc (head_end (suc n) t) else lines_end (suc n) (b ∷ t)) (b ∷ t))
    one_taken true e some tail = rw e (tail some)
    one_taken false e some tail = first_line (lines_end (suc n) (b ∷ t)) e (lines_taken (suc n) (b ∷ t) some)

-- ---- many header lines

-- the head with its first header lines alone
abbrev pub cut_head : RequestHead → RequestHead
cut_head k = record k { fields = take 65 k.fields; last = lf }

cut_valid : (k : RequestHead) → IsRequestHead k → IsRequestHead (cut_head k)
cut_valid k v =
    record {
      method = v.method;
      target = v.target;
      target_text = v.target_text;
      minor = v.minor;
      fields = All-take IsField 65 k.fields v.fields;
    }

-- Bytes with many lines that go on to a head of many header lines begin with 65 of them, which end where the scan says.
pub many_cut : (w more tail : List ℕ) (k : RequestHead) → IsRequestHead k → 64 < length k.fields
    → w ++ more ≡ up_to_fields k ++ tail → 66 ≤ line_count w
    → (c : RequestHead) × ReadsRequest (take (head_end 66 w) w ++ 10 ∷ []) c [] × (length c.fields ≡ 65)
many_cut w more tail k valid many text lines =
    let c = cut_head k in
    let v = cut_valid k valid in
    let count : length c.fields ≡ 65 = omega (arith, length-take 65 k.fields, many) in
    let others = flat_map print_field (drop 65 k.fields) in
    let split : flat_map print_field k.fields ≡ flat_map print_field c.fields ++ others =
    ap (flat_map print_field) (sym (take-append-drop 65 k.fields))
    ∙ flat_map-append print_field (take 65 k.fields) (drop 65 k.fields) in
    let e : w ++ more ≡ up_to_fields c ++ (others ++ tail) =
    text
    ∙ ap (λ (f : List ℕ). (print_blank k.blank ++ (k.method ++ 32 ∷ (k.target ++ 32 ∷ (print_version k.minor
    ++ (print_end k.line_end ++ f))))) ++ tail) split
    ∙ regroup (print_blank k.blank) k.method k.target (print_version k.minor) (print_end k.line_end)
    (flat_map print_field c.fields) others tail in
    let n : head_end 66 w ≡ length (up_to_fields c) =
    sym (head_end_append 65 w more lines) ∙ ap (head_end 66) e
    ∙ ap (λ (m : ℕ). head_end m (up_to_fields c ++ (others ++ tail)))
    (let six : 66 ≡ suc (length c.fields) = omega (arith, count) in six)
    ∙ front_head_end c v (others ++ tail) in
    let front : take (head_end 66 w) w ≡ up_to_fields c =
    sym (take-append-le (head_end 66 w) w more (head_end_fits 66 w))
    ∙ ap (λ (m : ℕ). take m (w ++ more)) n ∙ ap (take (length (up_to_fields c))) e
    ∙ take-append-le (length (up_to_fields c)) (up_to_fields c) (others ++ tail) (omega arith)
    ∙ take_all (length (up_to_fields c)) (up_to_fields c) (omega arith) in
    (c, (v, ap (λ (t : List ℕ). t ++ 10 ∷ []) front ∙ sym (print_parts c) ∙ sym (append-nil (print_request c))), count)
  where
    regroup : (a b c d e f o g : List ℕ)
        → (a ++ (b ++ 32 ∷ (c ++ 32 ∷ (d ++ (e ++ (f ++ o)))))) ++ g
        ≡ (a ++ (b ++ 32 ∷ (c ++ 32 ∷ (d ++ (e ++ f))))) ++ (o ++ g)
    regroup a b c d e f o g = simp (append_assoc, cons-append)

-- Such a beginning has too many header lines.
pub cut_exceeds : (w : List ℕ)
    → (c : RequestHead) × ReadsRequest (take (head_end 66 w) w ++ 10 ∷ []) c [] × (length c.fields ≡ 65)
    → RequestExceeds 64 w
cut_exceeds w x = (
  take (head_end 66 w) w,
  drop (head_end 66 w) w,
  sym (take-append-drop (head_end 66 w) w),
  x.0,
  x.1,
  omega (arith, x.2),
)

-- Too many header lines are many lines.
pub exceeds_line_count : (w : List ℕ) → RequestExceeds 64 w → 66 ≤ line_count w
exceeds_line_count w x =
    let front = exceeds_front 64 w x in
    let count = front_line_count x.3 x.4.0 front.0 in
    omega (arith, ap line_count front.1, count, x.5)

-- So they begin with 65.
pub exceeds_cut : (w : List ℕ) → RequestExceeds 64 w
    → (c : RequestHead) × ReadsRequest (take (head_end 66 w) w ++ 10 ∷ []) c [] × (length c.fields ≡ 65)
exceeds_cut w x =
    let front = exceeds_front 64 w x in
    many_cut w [] front.0 x.3 x.4.0 x.5 (append-nil w ∙ front.1) (exceeds_line_count w x)

-- ---- bytes that can become a head

last_feed : (u : List ℕ) (last : LineEnd) → (a : List ℕ) × (u ++ print_end last ≡ a ++ 10 ∷ [])
last_feed u crlf = (u ++ 13 ∷ [], sym (append_assoc u (13 ∷ []) (10 ∷ [])))
last_feed u lf = (u, refl)

ends_in_feed : (w a : List ℕ) (m : ℕ) (more : List ℕ) → w ++ (m ∷ more) ≡ a ++ 10 ∷ [] → 1 ≤ feeds (m ∷ more)
ends_in_feed [] a m more e = omega (arith, ap feeds e, feeds_append a (10 ∷ []))
ends_in_feed (b ∷ w) [] m more e = absurd (omega (arith, ap length e, length-append w (m ∷ more)))
ends_in_feed (b ∷ w) (c ∷ a) m more e = ends_in_feed w a m more (cc)

-- A head of at most 64 header lines has 66 lines at most, so bytes with so many are all of it.
few_is_whole : (w more : List ℕ) (h : RequestHead) → ReadsRequest (w ++ more) h [] → length h.fields ≤ 64
    → 66 ≤ line_count w → ReadsRequest w h []
few_is_whole w [] h x few lines = subst (λ (t : List ℕ). ReadsRequest t h []) (append-nil w) x
few_is_whole w (m ∷ more) h x few lines =
    let text : w ++ (m ∷ more) ≡ up_to_fields h ++ print_end h.last =
    x.1 ∙ append-nil (print_request h) ∙ print_parts h in
    let last = last_feed (up_to_fields h) h.last in
    let ends = ends_in_feed w last.0 m more (text ∙ last.1) in
    let all = front_line_count h x.0 (print_end h.last) in
    let one = end_feeds h.last [] in
    let both = line_count_append w (m ∷ more) (omega (arith, lines)) in
    absurd (omega (
      arith,
      ap line_count text,
      all,
      ap feeds (append-nil (print_end h.last)),
      one,
      both,
      ends,
      few,
      lines,
    ))

target_line_count : (w : List ℕ) → EndsInTarget w → line_count w ≡ 0
target_line_count w x =
    ap line_count (x.5 ∙ append_assoc (print_blank x.0) x.1 (32 ∷ x.2))
    ∙ blank_line_count x.0 (x.1 ++ 32 ∷ x.2) (Stops_token x.1 (32 ∷ x.2) x.3.0 x.3.1)
    ∙ run_feeds is_token_byte token_has_no_feed x.1 (32 ∷ x.2) x.3.1
    ∙ ap feeds (sym (append-nil x.2)) ∙ run_feeds is_uri_byte refl x.2 [] x.4

-- Bytes with many lines that are no head and can become one have too many header lines.
pub open_exceeds : (w : List ℕ) → HasNoRequest w → MayBecomeRequest w → 66 ≤ line_count w → RequestExceeds 64 w
open_exceeds w none (inr t) lines = absurd (omega (arith, target_line_count w t, lines))
open_exceeds w none (inl x) lines =
    elim (cases_lt 64 (length x.1.fields)) [
      | inl many ↦ cut_exceeds w (many_cut w x.0 (print_end x.1.last) x.1 x.2.0 many
          (x.2.1 ∙ append-nil (print_request x.1) ∙ print_parts x.1) lines)
      | inr few ↦ absurd (none x.1 [] (few_is_whole w x.0 x.1 x.2 few lines))
    ]

-- Bytes that can go on have few lines.
pub open_has_few_lines : (w : List ℕ) → IsOpen w → line_count w < 66
open_has_few_lines w o =
    elim (cases_lt (line_count w) 66) [
      | inl few ↦ few
      | inr lines ↦ absurd (o.few (open_exceeds w o.none o.may lines))
    ]

-- ---- the second parse

-- Lines that are a head already are no beginning of one.
pub none_complete : (text : List ℕ) (h k : RequestHead) (rest : List ℕ) → ReadsRequest text h rest
    → ReadsRequest (text ++ 10 ∷ []) k [] → ⊥
none_complete text h k rest x y =
    let longer = ReadsRequest-append text h rest (10 ∷ []) x in
    let same = (request_unique (text ++ 10 ∷ []) h k (rest ++ 10 ∷ []) [] longer y).1 in
    omega (arith, ap length same, length-append rest (10 ∷ []))

-- Lines that are refused with room for 65 header lines are no beginning of a head of 65.
pub none_refused : (text : List ℕ) → RequestOverflows 65 text → (k : RequestHead)
    → ReadsRequest (text ++ 10 ∷ []) k [] → length k.fields ≡ 65 → ⊥
none_refused text over k x count = let many = over (10 ∷ []) k [] x in omega (arith, many, count)

-- Lines that are cut behind the 66th and can go on have too many header lines, and so have the bytes.
pub cut_open_exceeds : (w : List ℕ) → 66 ≤ line_count w → HasNoRequest (take (head_end 66 w) w)
    → MayBecomeRequest (take (head_end 66 w) w) → RequestExceeds 64 w
cut_open_exceeds w lines none may =
    let front = open_exceeds (take (head_end 66 w) w) none may (head_taken 65 w lines) in
    subst (RequestExceeds 64) (take-append-drop (head_end 66 w) w)
    (exceeds_append 64 (take (head_end 66 w) w) (drop (head_end 66 w) w) front)

-- ---- steps of the scan

-- No line ends where there is no byte.
pub lines_end_nil : (n : ℕ) → lines_end n [] ≡ 0
lines_end_nil zero = refl
lines_end_nil (suc n) = refl

-- Behind an LF one line less is sought.
pub lines_end_feed : (n k b : ℕ) (t : List ℕ) → (n ≡ 0 → ⊥) → b ≡ 10 → k ≡ n - 1
    → lines_end n (b ∷ t) ≡ suc (lines_end k t)
lines_end_feed zero k b t some e less = absurd (some refl)
lines_end_feed (suc n) k b t some e less = let same : k ≡ n = omega (arith, less) in rw (e, same) refl

-- Behind another byte as many are.
pub lines_end_other : (n b : ℕ) (t : List ℕ) → (n ≡ 0 → ⊥) → (b ≡ 10 → ⊥) → lines_end n (b ∷ t) ≡ suc (lines_end n t)
lines_end_other zero b t some other = absurd (some refl)
lines_end_other (suc n) b t some other = let differs : (b == 10) ≡ false = ne_eqb b 10 other in rw differs refl

-- An LF is counted.
pub feeds_feed : (b : ℕ) (t : List ℕ) → b ≡ 10 → feeds (b ∷ t) ≡ suc (feeds t)
feeds_feed b t e = rw e refl

-- Another byte is not.
pub feeds_other : (b : ℕ) (t : List ℕ) → (b ≡ 10 → ⊥) → feeds (b ∷ t) ≡ feeds t
feeds_other b t other = let differs : (b == 10) ≡ false = ne_eqb b 10 other in rw differs refl

-- Where only CR and LF are left, no line is.
pub blank_nil : (bytes : List ℕ) (at n : ℕ) → length bytes ≤ at
    → at + head_end n (drop at bytes) ≡ at + lines_end n (drop at bytes)
blank_nil bytes at n past = rw (drop_all at bytes past, lines_end_nil n) refl

-- The same with the place of the 66th line.
pub cut_at_exceeds : (w : List ℕ) (end : ℕ) → end ≡ head_end 66 w → 66 ≤ line_count w → HasNoRequest (take end w)
    → MayBecomeRequest (take end w) → RequestExceeds 64 w
cut_at_exceeds w end e lines none may =
    cut_open_exceeds w lines (subst (λ (n : ℕ). HasNoRequest (take n w)) e none)
    (subst (λ (n : ℕ). MayBecomeRequest (take n w)) e may)

-- Too many header lines begin with 65 at that place.
pub exceeds_cut_at : (w : List ℕ) (end : ℕ) → end ≡ head_end 66 w → RequestExceeds 64 w
    → (c : RequestHead) × ReadsRequest (take end w ++ 10 ∷ []) c [] × (length c.fields ≡ 65)
exceeds_cut_at w end e x =
    subst (λ (n : ℕ). (c : RequestHead) × ReadsRequest (take n w ++ 10 ∷ []) c [] × (length c.fields ≡ 65))
    (sym e) (exceeds_cut w x)
