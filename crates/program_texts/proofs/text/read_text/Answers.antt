use Rattle.program_texts.proofs.text.read_text.Goals as goal

pub returns-in-Err : goal.returns-in-Err
returns-in-Err c = c.fault_text.ensures c.args.bytes.now c.in-Err.ensures.fault
