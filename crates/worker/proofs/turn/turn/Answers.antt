use Rattle.std.proofs.Common.{◌≡◌, length, ap, ◌∙◌, refl, subst}
use Rattle.connection_items.specs.declared.heads.Reading.TheVariants as reading
use Rattle.connection_items.specs.declared.heads.Unreadable.TheVariants as unreadable
use Rattle.connection_items.specs.declared.ends.End.TheVariants.{BadHead, LongHead, ManyHeaders}
use Rattle.connection_items.specs.Exchanges.{heads_in}
use Rattle.connection_items.proofs.HeadLaws.{passed_all}
use Rattle.connection_items.proofs.Steps.{after_head, after_piece, after_end, after_failed_read, after_part}
use Rattle.connection_items.proofs.Steps.{out_of_memory}
use Rattle.worker.proofs.turn.turn.Goals as goal

pub returns-in-Whole-clause-turned : goal.returns-in-Whole-clause-turned
returns-in-Whole-clause-turned g c = λ start going.
    let rules = g.S.ServesHeads.rules in
    let size = c.in-Whole.size in
    let parts = c.in-Whole.parts in
    let h : rules.reads c.args.window.now (reading.Whole size parts) =
    subst (λ b. rules.reads b (reading.Whole size parts)) c.bytes.ensures.same c.in-Whole.ensures in
    rw c.use_up.ensures (after_head rules g.met.S.ServesHeads.lawful start _ _ c.args.window.now size parts
    c.serve_head-step.result going h c.serve_head-step.ensures.serves (record {
      read = c.serve_head-step.ensures.read;
      left = c.serve_head-step.ensures.left;
      read_faults = c.serve_head-step.ensures.read_faults;
    }))

pub returns-in-Got-clause-turned : goal.returns-in-Got-clause-turned
returns-in-Got-clause-turned g c = λ start going.
    let taken = c.in-Got.ensures.bytes in
    after_piece g.S.ServesHeads.rules g.met.S.ServesHeads.lawful start _ _ c.args.window.now _ taken.piece going
    taken.behind taken.left taken.read (record { standing = refl; receipts = refl }) c.in-Got.ensures.written
    c.in-Got.ensures.faults c.in-Got.ensures.write_faults

pub returns-in-End-clause-turned : goal.returns-in-End-clause-turned
returns-in-End-clause-turned g c = λ start going.
    let rules = g.S.ServesHeads.rules in
    let none = c.in-End.ensures.bytes.0 in
    let h : rules.reads c.args.window.now reading.More =
    subst (λ b. rules.reads b reading.More) c.bytes.ensures.same c.in-More.ensures in
    let size : length c.bytes-in-End.result.now ≡ length c.args.window.now =
    ap length (c.bytes-in-End.ensures.same ∙ none.same) in
    rw c.ended.ensures (after_end rules g.met.S.ServesHeads.lawful start _ _ c.args.window.now _
    (length c.bytes-in-End.result.now) going h size
    (record { read = none.read; left = none.left; read_faults = c.in-End.ensures.faults })
    c.in-End.ensures.bytes.1 (record { standing = refl; receipts = refl }) c.in-End.ensures.written
    c.in-End.ensures.write_faults)

pub returns-in-Failed-clause-turned : goal.returns-in-Failed-clause-turned
returns-in-Failed-clause-turned g c = λ start going.
    let rules = g.S.ServesHeads.rules in
    let none = c.in-Failed.ensures.bytes in
    let h : rules.reads c.args.window.now reading.More =
    subst (λ b. rules.reads b reading.More) c.bytes.ensures.same c.in-More.ensures in
    after_failed_read rules g.met.S.ServesHeads.lawful start _ _ c.args.window.now c.args.window.now going h
    none.read none.left c.in-Failed.ensures.faults (record { standing = refl; receipts = refl })
    c.in-Failed.ensures.written c.in-Failed.ensures.write_faults

pub returns-in-Bad-clause-turned : goal.returns-in-Bad-clause-turned
returns-in-Bad-clause-turned g c = λ start going.
    let rules = g.S.ServesHeads.rules in
    let sent = c.part.ensures in
    let h : rules.reads c.args.window.now reading.Bad =
    subst (λ b. rules.reads b reading.Bad) c.bytes.ensures.same c.in-Bad.ensures in
    after_part rules g.met.S.ServesHeads.lawful start _ _ c.args.window.now _ BadHead (rules.refusal unreadable.Bad)
    c.part.result reading.Bad going (sent.parts (rules.refusal unreadable.Bad) c.print_refusal.ensures)
    refl h tt (record { read = sent.read; left = sent.left; read_faults = sent.read_faults })
    (record { standing = refl; receipts = refl }) tt tt refl refl refl refl (tt, (going.passed, h))
    (λ none. passed_all rules going.got (heads_in going.talk) c.args.window.now going.passed none)

pub returns-in-Long-clause-turned : goal.returns-in-Long-clause-turned
returns-in-Long-clause-turned g c = λ start going.
    let rules = g.S.ServesHeads.rules in
    let sent = c.part-in-Long.ensures in
    let h : rules.reads c.args.window.now reading.Long =
    subst (λ b. rules.reads b reading.Long) c.bytes.ensures.same c.in-Long.ensures in
    after_part rules g.met.S.ServesHeads.lawful start _ _ c.args.window.now _ LongHead (rules.refusal unreadable.Long)
    c.part-in-Long.result reading.Long going
    (sent.parts (rules.refusal unreadable.Long) c.print_refusal-in-Long.ensures)
    refl h tt (record { read = sent.read; left = sent.left; read_faults = sent.read_faults })
    (record { standing = refl; receipts = refl }) tt tt refl refl refl refl (tt, (going.passed, h))
    (λ none. passed_all rules going.got (heads_in going.talk) c.args.window.now going.passed none)

pub returns-in-Many-clause-turned : goal.returns-in-Many-clause-turned
returns-in-Many-clause-turned g c = λ start going.
    let rules = g.S.ServesHeads.rules in
    let sent = c.part-in-Many.ensures in
    let h : rules.reads c.args.window.now reading.Many =
    subst (λ b. rules.reads b reading.Many) c.bytes.ensures.same c.in-Many.ensures in
    after_part rules g.met.S.ServesHeads.lawful start _ _ c.args.window.now _ ManyHeaders
    (rules.refusal unreadable.Many) c.part-in-Many.result reading.Many going
    (sent.parts (rules.refusal unreadable.Many) c.print_refusal-in-Many.ensures)
    refl h tt (record { read = sent.read; left = sent.left; read_faults = sent.read_faults })
    (record { standing = refl; receipts = refl }) tt tt refl refl refl refl (tt, (going.passed, h))
    (λ none. passed_all rules going.got (heads_in going.talk) c.args.window.now going.passed none)

pub returns-in-Memory-clause-turned : goal.returns-in-Memory-clause-turned
returns-in-Memory-clause-turned g c = λ start going.
    out_of_memory g.S.ServesHeads.rules g.met.S.ServesHeads.lawful start _ c.args.window.now going
