-- Where characters begin and end.
use Rattle.std.proofs.Common.{◌≡◌, ℕ, zero, suc, ◌+◌, ◌<◌, Bool, true, false, cond, List, [], ◌∷◌, ◌++◌}
use Rattle.std.proofs.Common.{length, take, drop, refl, sym, ap, ◌∙◌, arith}
use Rattle.std.proofs.Common.{◌-◌, get_or, ◌⊎◌, inl, inr}
use Rattle.std.specs.List.{prefix_len}
use Rattle.std.proofs.lemmas.List.{drop_more, drop_all, take-append-drop}
use Rattle.ruby_builtin_base.specs.Characters.{is_inner, begins_inside, onto, characters}
use Rattle.ruby_builtin_base.proofs.CharacterLaws.{length-characters}

by_next : (byte next : ℕ) (bytes : List ℕ) (inside : Bool) → characters (next ∷ bytes)
    ≡ (next ∷ take (prefix_len is_inner bytes) bytes) ∷ characters (drop (prefix_len is_inner bytes) bytes) →
    onto byte inside (characters (next ∷ bytes))
    ≡ (byte ∷ take (cond inside (1 + prefix_len is_inner bytes) 0) (next ∷ bytes))
    ∷ characters (drop (cond inside (1 + prefix_len is_inner bytes) 0) (next ∷ bytes))
by_next byte next bytes true e =
    ap (onto byte true) e
    ∙ ap (λ n. (byte ∷ take n (next ∷ bytes)) ∷ characters (drop n (next ∷ bytes)))
    (let step : suc (prefix_len is_inner bytes) ≡ 1 + prefix_len is_inner bytes = omega arith in step)
by_next byte next bytes false e = refl

-- the first character is the first byte with the inner bytes behind it
pub characters-first : (byte : ℕ) (bytes : List ℕ) → characters (byte ∷ bytes)
    ≡ (byte ∷ take (prefix_len is_inner bytes) bytes) ∷ characters (drop (prefix_len is_inner bytes) bytes)
characters-first byte [] = refl
characters-first byte (next ∷ bytes) = by_next byte next bytes (is_inner next) (characters-first next bytes)

-- a character before others
onto-append : (byte : ℕ) (inside : Bool) (first : List ℕ) (others more : List (List ℕ)) →
    onto byte inside ((first ∷ others) ++ more) ≡ onto byte inside (first ∷ others) ++ more
onto-append byte true first others more = refl
onto-append byte false first others more = refl

onto-some : (byte : ℕ) (inside : Bool) (characters more : List (List ℕ)) → 0 < length characters →
    onto byte inside (characters ++ more) ≡ onto byte inside characters ++ more
onto-some byte inside [] more some = absurd (omega arith)
onto-some byte inside (first ∷ others) more some = onto-append byte inside first others more

-- two texts keep their characters where the second doesn't begin inside of one
pub characters-append : (front back : List ℕ) → begins_inside back ≡ false →
    characters (front ++ back) ≡ characters front ++ characters back
characters-append [] back e = refl
characters-append (byte ∷ []) back e = ap (λ inside. onto byte inside (characters back)) e
characters-append (byte ∷ next ∷ front) back e =
    ap (onto byte (is_inner next)) (characters-append (next ∷ front) back e)
    ∙ onto-some byte (is_inner next) (characters (next ∷ front)) (characters back)
    (omega (arith, length-characters next front))

-- a byte before one that goes on with it
pub characters-grow : (byte next : ℕ) (bytes : List ℕ) → is_inner next ≡ true →
    characters (next ∷ bytes) ≡ (next ∷ bytes) ∷ [] → characters (byte ∷ next ∷ bytes) ≡ (byte ∷ next ∷ bytes) ∷ []
characters-grow byte next bytes inner one =
    ap (λ inside. onto byte inside (characters (next ∷ bytes))) inner ∙ ap (onto byte true) one

-- the bytes up to where inner ones end are the first character
pub first_character : (byte end : ℕ) (others text front back : List ℕ) → text ≡ byte ∷ others →
    end ≡ prefix_len is_inner others → front ≡ take (end + 1) text → back ≡ drop (end + 1) text →
    characters text ≡ front ∷ characters back
first_character byte end others text front back text_is end_is front_is back_is =
    let places : end + 1 ≡ suc (prefix_len is_inner others) = omega arith in
    let front_bytes : front ≡ byte ∷ take (prefix_len is_inner others) others =
    front_is ∙ ap (λ n. take n text) places ∙ ap (take (suc (prefix_len is_inner others))) text_is in
    let back_bytes : back ≡ drop (prefix_len is_inner others) others =
    back_is ∙ ap (λ n. drop n text) places ∙ ap (drop (suc (prefix_len is_inner others))) text_is in
    ap characters text_is ∙ characters-first byte others
    ∙ ap (λ t. t ∷ characters (drop (prefix_len is_inner others) others)) (sym front_bytes)
    ∙ ap (λ t. front ∷ characters t) (sym back_bytes)

-- the last byte is a character, or its end
pub last_byte : (text : List ℕ) (start : ℕ) → start + 1 ≡ length text →
    characters (drop start text) ≡ drop start text ∷ []
last_byte text start last =
    let one : drop start text ≡ get_or text start 0 ∷ [] =
    drop_more text start 0 (omega arith)
    ∙ ap (λ t. get_or text start 0 ∷ t) (drop_all (start + 1) text (omega arith)) in
    ap characters one ∙ ap (λ t. t ∷ []) (sym one)

-- one byte before bytes that go on with a character
pub last_grows : (text : List ℕ) (start : ℕ) → 0 < start → start < length text →
    is_inner (get_or text start 0) ≡ true → characters (drop start text) ≡ drop start text ∷ [] →
    characters (drop (start - 1) text) ≡ drop (start - 1) text ∷ []
last_grows text zero some within inner one = absurd (omega arith)
last_grows text (suc start) some within inner one =
    let places : suc start - 1 ≡ start = omega arith in
    let first : drop start text ≡ get_or text start 0 ∷ drop (suc start) text =
    drop_more text start 0 (omega arith)
    ∙ ap (λ n. get_or text start 0 ∷ drop n text) (let e : start + 1 ≡ suc start = omega arith in e) in
    let next : drop (suc start) text ≡ get_or text (suc start) 0 ∷ drop (suc start + 1) text =
    drop_more text (suc start) 0 within in
    let grown : characters (get_or text start 0 ∷ drop (suc start) text)
    ≡ (get_or text start 0 ∷ drop (suc start) text) ∷ [] =
    ap (λ t. characters (get_or text start 0 ∷ t)) next
    ∙ characters-grow (get_or text start 0) (get_or text (suc start) 0) (drop (suc start + 1) text) inner
    (sym (ap characters next) ∙ one ∙ ap (λ t. t ∷ []) next)
    ∙ ap (λ t. (get_or text start 0 ∷ t) ∷ []) (sym next) in
    ap (λ n. characters (drop n text)) places ∙ ap characters first ∙ grown ∙ ap (λ t. t ∷ []) (sym first)
    ∙ ap (λ n. drop n text ∷ []) (sym places)

-- the characters before the last
pub last_character : (text front back : List ℕ) (start : ℕ) → start < length text →
    (start ≡ 0) ⊎ (is_inner (get_or text start 0) ≡ false) → front ≡ take start text → back ≡ drop start text →
    characters (drop start text) ≡ drop start text ∷ [] → characters text ≡ characters front ++ back ∷ []
last_character text front back start within (inl none) front_is back_is one =
    ap (λ n. characters (drop n text)) (sym none) ∙ one
    ∙ ap (λ t. t ∷ []) (sym back_is)
    ∙ sym (ap (λ t. characters t ++ back ∷ []) (front_is ∙ ap (λ n. take n text) none))
last_character text front back start within (inr begins) front_is back_is one =
    sym (ap characters (take-append-drop start text))
    ∙ characters-append (take start text) (drop start text)
    (ap begins_inside (drop_more text start 0 within) ∙ begins)
    ∙ ap (λ t. characters (take start text) ++ t) one
    ∙ ap (λ t. characters t ++ drop start text ∷ []) (sym front_is)
    ∙ ap (λ t. characters front ++ t ∷ []) (sym back_is)
