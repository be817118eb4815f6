-- A connection that was served whole was answered.
use Rattle.std.proofs.Common.{◌≡◌, ◌⊎◌, inl, inr, ℕ, ◌≤◌, List, [], ◌∷◌, ◌++◌, length, Option, Some}
use Rattle.std.proofs.Common.{None, refl, ap, sym, ◌∙◌, subst, arith, append-nil, length-append}
use Rattle.std.specs.Prelude.{IfSome}
use Rattle.outside.specs.Faults.{Rose}
use Rattle.outside.specs.Told.{appended}
use Rattle.outside.specs.Delivery.{Sends}
use Rattle.outside.specs.declared.writing.Delivery.TheVariants as delivery
use Rattle.connection_items.specs.declared.heads.Unreadable.TheVariants as unreadable
use Rattle.connection_items.specs.declared.ends.End.{End}
use Rattle.connection_items.specs.declared.ends.End.TheVariants.{Closed, TornHead, BadHead, LongHead, ManyHeaders}
use Rattle.connection_items.specs.declared.ends.End.TheVariants.{Unread, ReadFault, WriteFault, Full, Memory}
use Rattle.connection_items.specs.Exchanges.{Exchange, heads_in}
use Rattle.connection_items.specs.Rules.{Rules, IsLawful, HasNoHead, closes}
use Rattle.connection_items.specs.Heads.{Heads}
use Rattle.connection_items.specs.Ends.{Sight, Conversation, Cause, Last, AnnouncesBody, AsksToClose, responses}
use Rattle.connection_items.specs.Ends.{asks_head_only, closing_response}
use Rattle.connection_items.specs.Answers.{LinkIsAnswered}
use Rattle.connection_items.proofs.Complete.{some_same}

-- a count that rose is above 0
pub rose_some : (before now : ℕ) → Rose before now → 1 ≤ now
rose_some before now rose = omega (arith, rose.counted)

-- what was added to nothing is what is told
told_of_nothing : (before now : Option (List ℕ)) (bytes w : List ℕ) → now ≡ appended before bytes →
    IfSome before (λ b. b ≡ []) → now ≡ Some w → w ≡ bytes
told_of_nothing None now bytes w e none told = absurd (let bad : Some w ≡ None = sym told ∙ e in cc)
told_of_nothing (Some b) now bytes w e none told =
    some_same w (b ++ bytes) (sym told ∙ e) ∙ ap (λ x. x ++ bytes) none

-- an empty list that is told is empty
empty_where_told : (left : Option (List ℕ)) (l : List ℕ) → IfSome left (λ x. x ≡ []) → left ≡ Some l → l ≡ []
empty_where_told left l none told = subst (λ t. IfSome t (λ x. x ≡ [])) told none

module _ {P I E R H F : Type 0} (rules : Rules P I E R H F) (laws : IsLawful rules) where
  -- bytes with some behind others were written
  behind_some : (a b w : List ℕ) → w ≡ a ++ b → 1 ≤ length b → 1 ≤ length w
  behind_some a b w e some = let size = ap length e ∙ length-append a b in omega arith

  -- bytes with some before others were written
  before_some : (a b w : List ℕ) → w ≡ a ++ b → 1 ≤ length a → 1 ≤ length w
  before_some a b w e some = let size = ap length e ∙ length-append a b in omega arith

  -- the responses of some exchanges are some bytes
  responses_some : (x : Exchange P I E R) (xs : List (Exchange P I E R)) → 1 ≤ length (responses rules (x ∷ xs))
  responses_some x xs =
      let one = laws.speaks x.item (closes rules x.head) (rules.manner x.head).head_only in
      before_some (rules.response x.item (closes rules x.head) (rules.manner x.head).head_only) (responses rules xs)
      (responses rules (x ∷ xs)) refl one

  -- where some exchange took place, something was written; else there was no head
  at_end : (talk : List (Exchange P I E R)) (got rest r l w : List ℕ) → Heads rules got (heads_in talk) rest →
      w ≡ responses rules talk ++ [] → r ≡ got → l ≡ [] → (1 ≤ length w) ⊎ HasNoHead rules (r ++ l)
  at_end [] got rest r l w heads sent read left = inr
      (subst (HasNoHead rules) (sym (append-nil got) ∙ ap (λ x. x ++ []) (sym read) ∙ ap (λ x. r ++ x) (sym left))
      heads.0)
  at_end (x ∷ xs) got rest r l w heads sent read left =
      inl (before_some (responses rules (x ∷ xs)) [] w sent (responses_some x xs))

  -- where there is a last head, something was written
  with_last : (Holds : P → Type 0) (talk : List (Exchange P I E R)) (w : List ℕ) → Last Holds (heads_in talk) →
      w ≡ responses rules talk ++ [] → 1 ≤ length w
  with_last Holds [] w last sent = absurd last
  with_last Holds (x ∷ xs) w last sent = before_some (responses rules (x ∷ xs)) [] w sent (responses_some x xs)

  -- A link that was not used before is answered where it was served, unless memory ran out.
  pub is_answered : (start now : Sight I E R H) (end : End F) → Conversation rules start now end →
      IfSome start.read (λ b. b ≡ []) → IfSome start.written (λ b. b ≡ []) → (end ≡ Memory → ⊥) →
      LinkIsAnswered rules now.read_faults now.write_faults now.read now.left now.written
  is_answered start now Closed c read written memory = λ r l w is_read is_left is_written.
      let cause = (subst (Cause rules now c.got (heads_in c.talk) c.rest c.further) c.means c.cause).1 in
      let meant = subst (λ m. Sends delivery.Whole (responses rules c.talk
      ++ closing_response rules m now.standing.generation (asks_head_only rules c.further)) start.written now.written)
      c.means c.bytes in
      let sent = told_of_nothing start.written now.written (responses rules c.talk ++ []) w meant written is_written in
      let got = told_of_nothing start.read now.read c.got r c.read read is_read in
      elim cause [
        | inl k ↦ inr (inl (with_last (AsksToClose rules) c.talk w k.1 sent))
        | inr k ↦ inr (at_end c.talk c.got c.rest r l w c.all sent got (empty_where_told now.left l k.1.1 is_left))
      ]
  is_answered start now (TornHead n) c read written memory = λ r l w is_read is_left is_written.
      let cause = (subst (Cause rules now c.got (heads_in c.talk) c.rest c.further) c.means c.cause).1 in
      let meant = subst (λ m. Sends delivery.Whole (responses rules c.talk
      ++ closing_response rules m now.standing.generation (asks_head_only rules c.further)) start.written now.written)
      c.means c.bytes in
      let sent = told_of_nothing start.written now.written (responses rules c.talk ++ []) w meant written is_written in
      let got = told_of_nothing start.read now.read c.got r c.read read is_read in
      inr (at_end c.talk c.got c.rest r l w c.all sent got (empty_where_told now.left l cause.1.1.1.1 is_left))
  is_answered start now BadHead c read written memory = λ r l w is_read is_left is_written.
      let meant = subst (λ m. Sends delivery.Whole (responses rules c.talk
      ++ closing_response rules m now.standing.generation (asks_head_only rules c.further)) start.written now.written)
      c.means c.bytes in
      let sent = told_of_nothing start.written now.written (responses rules c.talk ++ rules.refusal unreadable.Bad) w
      meant written is_written in
      inr (inl (behind_some (responses rules c.talk) (rules.refusal unreadable.Bad) w sent
      (laws.refuses unreadable.Bad)))
  is_answered start now LongHead c read written memory = λ r l w is_read is_left is_written.
      let meant = subst (λ m. Sends delivery.Whole (responses rules c.talk
      ++ closing_response rules m now.standing.generation (asks_head_only rules c.further)) start.written now.written)
      c.means c.bytes in
      let sent = told_of_nothing start.written now.written (responses rules c.talk ++ rules.refusal unreadable.Long) w
      meant written is_written in
      inr (inl (behind_some (responses rules c.talk) (rules.refusal unreadable.Long) w sent
      (laws.refuses unreadable.Long)))
  is_answered start now ManyHeaders c read written memory = λ r l w is_read is_left is_written.
      let meant = subst (λ m. Sends delivery.Whole (responses rules c.talk
      ++ closing_response rules m now.standing.generation (asks_head_only rules c.further)) start.written now.written)
      c.means c.bytes in
      let sent = told_of_nothing start.written now.written (responses rules c.talk ++ rules.refusal unreadable.Many) w
      meant written is_written in
      inr (inl (behind_some (responses rules c.talk) (rules.refusal unreadable.Many) w sent
      (laws.refuses unreadable.Many)))
  is_answered start now Unread c read written memory = λ r l w is_read is_left is_written.
      let cause = (subst (Cause rules now c.got (heads_in c.talk) c.rest c.further) c.means c.cause).1 in
      let meant = subst (λ m. Sends delivery.Whole (responses rules c.talk
      ++ closing_response rules m now.standing.generation (asks_head_only rules c.further)) start.written now.written)
      c.means c.bytes in
      let sent = told_of_nothing start.written now.written (responses rules c.talk ++ []) w meant written is_written in
      inr (inl (with_last (AnnouncesBody rules) c.talk w cause.1 sent))
  is_answered start now ReadFault c read written memory = λ r l w is_read is_left is_written.
      let some = rose_some start.read_faults now.read_faults c.reads in
      inl (omega arith)
  is_answered start now WriteFault c read written memory = λ r l w is_read is_left is_written.
      let some = rose_some start.write_faults now.write_faults c.writes in
      inl (omega arith)
  is_answered start now (Full limit) c read written memory = λ r l w is_read is_left is_written.
      let closing = rules.limit_response limit now.standing.generation (asks_head_only rules c.further) in
      let meant = subst (λ m. Sends delivery.Whole (responses rules c.talk
      ++ closing_response rules m now.standing.generation (asks_head_only rules c.further)) start.written now.written)
      c.means c.bytes in
      let sent = told_of_nothing start.written now.written (responses rules c.talk ++ closing) w meant written
      is_written in
      inr (inl (behind_some (responses rules c.talk) closing w sent
      (laws.declines limit now.standing.generation (asks_head_only rules c.further))))
  is_answered start now Memory c read written memory = absurd (memory refl)
