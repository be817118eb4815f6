-- What is told of bytes in several parts.
use Rattle.std.proofs.Common.{◌≡◌, ℕ, ◌+◌, suc, List, [], ◌∷◌, ◌++◌, length, take, Option, Some}
use Rattle.std.proofs.Common.{None, refl, ap, sym, ◌∙◌, arith, length-append, append-nil, append_assoc, zero-add}
use Rattle.outside.specs.Told.{appended, prefixed}
use Rattle.outside.specs.Delivery.{Sends}
use Rattle.outside.specs.declared.writing.Delivery.{Delivery}
use Rattle.outside.specs.declared.writing.Delivery.TheVariants.{Whole, Failed}
use Rattle.outside.proofs.ToldLaws.{appended-appended}

-- nothing more is what was told
pub appended-nil : {T : Type 0} (told : Option (List T)) → appended told [] ≡ told
appended-nil None = refl
appended-nil (Some all) = ap Some (append-nil all)

-- nothing in front is what was told
pub prefixed-nil : {T : Type 0} (told : Option (List T)) → prefixed [] told ≡ told
prefixed-nil None = refl
prefixed-nil (Some all) = refl

-- what stands in front of what stands in front
pub prefixed-prefixed : {T : Type 0} (first more : List T) (told : Option (List T)) →
    prefixed first (prefixed more told) ≡ prefixed (first ++ more) told
prefixed-prefixed first more None = refl
prefixed-prefixed first more (Some all) = ap Some (sym (append_assoc first more all))

-- the first elements, past the first list
pub take_through : (a z : List ℕ) (n : ℕ) → take (length a + n) (a ++ z) ≡ a ++ take n z
take_through [] z n = ap (λ k. take k z) (zero-add n)
take_through (x ∷ a) z n =
    let e : length (x ∷ a) + n ≡ suc (length a + n) = omega arith in
    ap (λ k. take k ((x ∷ a) ++ z)) e ∙ ap (λ xs. x ∷ xs) (take_through a z n)

-- some bytes were sent whole, and then others as far as they were
pub sends_more : (sent : Delivery) (first more : List ℕ) (a b c : Option (List ℕ)) → Sends Whole first a b →
    Sends sent more b c → Sends sent (first ++ more) a c
sends_more Whole first more a b c f m = m ∙ ap (λ t. appended t more) f ∙ appended-appended a first more
sends_more Failed first more a b c f m = (
  length first + m.0,
  omega (arith, length-append first more, m.1),
  m.2 ∙ ap (λ t. appended t (take m.0 more)) f ∙ appended-appended a first (take m.0 more)
      ∙ ap (appended a) (sym (take_through first more m.0)),
)

-- nothing was sent
pub sends_nothing : (a b : Option (List ℕ)) → b ≡ a → Sends Whole [] a b
sends_nothing a b e = e ∙ sym (appended-nil a)
