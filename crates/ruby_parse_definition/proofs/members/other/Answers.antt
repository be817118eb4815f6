use Rattle.ruby_parse_definition.proofs.MemberLaws.{assigned_chosen, nothing_at_top}
use Rattle.ruby_parse_definition.proofs.members.other.Goals as goal

pub returns-then-sees-clause-reads : goal.returns-then-sees-clause-reads
returns-then-sees-clause-reads c = assigned_chosen c.args.place.levels c.args.place.path.now c.args.marks.now
    c.args.cursor.now c.assigned.new.marks c.assigned.new.cursor c.assigned.result (cc) c.assigned.ensures.reads

pub returns-then-is_top-clause-reads : goal.returns-then-is_top-clause-reads
returns-then-is_top-clause-reads c = nothing_at_top c.args.place.levels c.args.place.path.now c.args.marks.now
    c.args.cursor.now (cc) c.requires.no_module c.requires.no_class c.args.marks.now (cc)
