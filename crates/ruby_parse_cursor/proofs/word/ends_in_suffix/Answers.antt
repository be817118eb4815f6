use Rattle.ruby_parse_cursor.proofs.Suffix.{question_is_suffix, exclamation_is_suffix}
use Rattle.ruby_parse_cursor.proofs.word.ends_in_suffix.Goals as goal

pub returns-then-byte-eq63 : goal.returns-then-byte-eq63
returns-then-byte-eq63 c = question_is_suffix c.args.name.now c.in-len1-up.len_at_least c.if-byte-eq63.true

pub returns-else-byte-eq63 : goal.returns-else-byte-eq63
returns-else-byte-eq63 c = exclamation_is_suffix c.args.name.now c.in-len1-up.len_at_least c.if-byte-eq63.false
