-- The notices and replies that tell why requests are refused.
use Rattle.std.specs.Prelude.{ℕ, List, codes, Option, Some, None}
use Rattle.ruby_types.specs.declared.request.Reply.{Reply}
use Rattle.http_front_response.specs.Notices.{notice_reply}
use Rattle.http_front_response.specs.declared.notice.Notice.{Notice}
use Rattle.http_front_response.specs.declared.notice.Notice.TheVariants as notice
use Rattle.tree_report.specs.declared.refusal.Refusal.{Refusal}
use Rattle.tree_report.specs.Refusals.{refusal_text}
use Rattle.program_snapshots.specs.declared.fault.ProgramFault.{ProgramFault}
use Rattle.program_refusals.specs.Refusals.{refusal_of}
use Rattle.system_events.specs.declared.event.Cause.{Cause}
use Rattle.system_events.specs.declared.event.Cause.TheVariants as cause

-- the text of a refusal; want of memory has none of its own
abbrev pub text_by : Option Refusal → List ℕ
text_by None = codes "out of memory"
text_by (Some refusal) = refusal_text refusal

-- why files have no program
abbrev pub fault_text : ProgramFault → List ℕ
fault_text fault = text_by (refusal_of fault)

-- The notice by each cause. (Nobody is told of want of memory: it ends what is served.)
abbrev pub notice_of : {M T V P Q R : Type 0} → Cause M T V P Q R ProgramFault → Notice
notice_of cause.Tree = notice.FilesUnread
notice_of (cause.Program fault) = notice.Application (fault_text fault)
notice_of (cause.GenerationsFull number) = notice.GenerationsFull number
notice_of (cause.KeptFull number) = notice.KeptBytesFull number
notice_of cause.Method = notice.Method
notice_of cause.Body = notice.Body
notice_of (cause.Target number) = notice.Target
notice_of cause.Memory = notice.Application (codes "out of memory")

-- the reply by each cause
abbrev pub refusal_reply : {M T V P Q R : Type 0} → Cause M T V P Q R ProgramFault → Reply
refusal_reply why = notice_reply (notice_of why)
