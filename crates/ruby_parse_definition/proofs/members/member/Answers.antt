use Rattle.std.proofs.Common.{◌≡◌, ◌∙◌, Some, sym, refl, rules}
use Rattle.std.proofs.lemmas.Result.{err_from_is_err_and}
use Rattle.ruby_parse_cursor.proofs.CodeLaws.{sees_code, lacks_code, other_code}
use Rattle.ruby_parse_definition.proofs.MemberLaws.{included_chosen, readers_chosen, method_chosen, method_deep}
use Rattle.ruby_parse_definition.proofs.MemberLaws.{no_member}
use Rattle.ruby_parse_definition.proofs.members.member.Goals as goal
use Rattle.ruby_parse_definition.proofs.members.member.Goals.{in_default-via-in-Some+in_default-1}
use Rattle.ruby_parse_definition.proofs.members.member.Goals.{in_default-via-in-None-1}

pub returns-in-Some-eq16-cases-clause-reads : goal.returns-in-Some-eq16-cases-clause-reads
returns-in-Some-eq16-cases-clause-reads c =
    included_chosen c.args.place.levels c.args.place.path.now c.args.marks.now c.args.cursor.now c.requires.no_const
    c.requires.no_module c.requires.no_class c.requires.inside c.included.new.marks c.included.new.cursor
    c.included.result
    (sees_code c.args.cursor.now 16 (sym c.peek_code.ensures ∙ (cc))) c.included.ensures.reads

pub returns-in-Some-eq17-cases-clause-reads : goal.returns-in-Some-eq17-cases-clause-reads
returns-in-Some-eq17-cases-clause-reads c =
    readers_chosen c.args.place.levels c.args.place.path.now c.args.marks.now c.args.cursor.now c.requires.no_const
    c.requires.no_module c.requires.no_class c.requires.inside
    (other_code c.args.cursor.now 17 16 (sym c.peek_code.ensures ∙ (cc)) refl)
    c.readers.new.marks c.readers.new.cursor c.readers.result
    (sees_code c.args.cursor.now 17 (sym c.peek_code.ensures ∙ (cc))) c.readers.ensures.reads

pub returns-in_err-levels-clause-reads : goal.returns-in_err-levels-clause-reads
returns-in_err-levels-clause-reads c =
    let p = err_from_is_err_and c.from_residual.result c.from_residual.ensures.1 in
    rw (p.1, p.2) (method_deep c.args.place.levels c.args.place.path.now c.args.marks.now c.args.cursor.now
    c.requires.no_const c.requires.no_module c.requires.no_class c.requires.inside
    (other_code c.args.cursor.now 3 16 (sym c.peek_code.ensures ∙ (cc)) refl)
    (other_code c.args.cursor.now 3 17 (sym c.peek_code.ensures ∙ (cc)) refl)
    _ c.args.marks.now (sees_code c.args.cursor.now 3 (sym c.peek_code.ensures ∙ (cc))) c.in_err-levels.ensures.none
    c.in_err-levels.ensures.fault)

pub returns-in_ok-levels-clause-reads : goal.returns-in_ok-levels-clause-reads
returns-in_ok-levels-clause-reads c =
    method_chosen c.args.place.levels c.args.place.path.now c.args.marks.now c.args.cursor.now c.requires.no_const
    c.requires.no_module c.requires.no_class c.requires.inside
    (other_code c.args.cursor.now 3 16 (sym c.peek_code.ensures ∙ (cc)) refl)
    (other_code c.args.cursor.now 3 17 (sym c.peek_code.ensures ∙ (cc)) refl)
    c.in_ok-levels.levels c.method.new.marks c.method.new.cursor c.method.result
    (sees_code c.args.cursor.now 3 (sym c.peek_code.ensures ∙ (cc))) c.in_ok-levels.ensures.left c.method.ensures.reads

-- the code is none of the three
pub returns-in_default-clause-reads : goal.returns-in_default-clause-reads
returns-in_default-clause-reads c =
    no_member c.args.place.levels c.args.place.path.now c.args.marks.now c.args.cursor.now c.requires.no_const
    c.requires.no_module c.requires.no_class c.requires.inside
    (lacks_code c.args.cursor.now 16 refl (λ e. let r : c.peek_code.result ≡ Some 16 = c.peek_code.ensures ∙ e in
    elim c.in_default.branch [
      | in_default-via-in-Some+in_default-1 w ↦ search rules
      | in_default-via-in-None-1 w ↦ search rules
    ]))
    (lacks_code c.args.cursor.now 17 refl (λ e. let r : c.peek_code.result ≡ Some 17 = c.peek_code.ensures ∙ e in
    elim c.in_default.branch [
      | in_default-via-in-Some+in_default-1 w ↦ search rules
      | in_default-via-in-None-1 w ↦ search rules
    ]))
    c.args.marks.now
    (lacks_code c.args.cursor.now 3 refl (λ e. let r : c.peek_code.result ≡ Some 3 = c.peek_code.ensures ∙ e in
    elim c.in_default.branch [
      | in_default-via-in-Some+in_default-1 w ↦ search rules
      | in_default-via-in-None-1 w ↦ search rules
    ]))
