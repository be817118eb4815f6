use Rattle.ruby_token.proofs.Outcomes.{memory_told, found_of, spans_done, fault_of, only_of}
use Rattle.ruby_token.proofs.lexer.tokens.Goals as goal

pub returns-in-Err-clause-fault : goal.returns-in-Err-clause-fault
returns-in-Err-clause-fault c = memory_told c.args.bytes.now

pub returns-in-Ok-clause-spans : goal.returns-in-Ok-clause-spans
returns-in-Ok-clause-spans c = spans_done c.all_or_fault.result (λ ts. ts) c.args.bytes.now
    (found_of c.all_or_fault.result (λ ts. ts) c.args.bytes.now _ c.in-Ok.ensures.found c.all_or_fault.ensures.all)

pub returns-in-Ok-clause-fault : goal.returns-in-Ok-clause-fault
returns-in-Ok-clause-fault c = fault_of c.all_or_fault.result _ c.args.bytes.now _ c.in-Ok.ensures.found
    c.all_or_fault.ensures.fault

pub returns-in-Ok-clause-only : goal.returns-in-Ok-clause-only
returns-in-Ok-clause-only c = λ o h.
    only_of c.all_or_fault.result (λ ts. ts) _ c.args.bytes.now _ o c.in-Ok.ensures.found c.all_or_fault.ensures.all
    c.all_or_fault.ensures.fault (c.in-Ok.ensures.only o h)
