-- A refusal of files, as a program lacks and as a listing lacks.
use Rattle.std.proofs.Common.{◌≡◌, List, Some, subst}
use Rattle.std.specs.Prelude.{IfSome}
use Rattle.outside.specs.declared.files.FileEntry.{FileEntry}
use Rattle.program_snapshots.specs.Refusals.{IsRefusal}
use Rattle.program_snapshots.specs.declared.fault.ProgramFault.{ProgramFault}
use Rattle.program_snapshots.specs.declared.fault.ProgramFault.TheVariants.{Limit, Config, Scan, Memory}
use Rattle.tree_scan.specs.declared.fault.ScanFault.TheVariants as scan
use Rattle.tree_command.specs.Tree.{IsRefused}
use Rattle.tree_report.specs.declared.refusal.Refusal.{Refusal}
use Rattle.program_refusals.specs.Refusals.{refusal_of}

-- the refusal by a fault refuses the files
told : (files : List FileEntry) (fault : ProgramFault) → IsRefusal files fault →
    IfSome (refusal_of fault) (IsRefused files)
told files (Limit limit number) h = h
told files (Config fault) h = h
told files (Scan (scan.TwoRoots path)) h = h
told files (Scan (scan.BadName path)) h = h
told files (Scan scan.Memory) h = tt
told files Memory h = tt

-- why files have no program is why they have no listing
pub refusal_is_refused : (files : List FileEntry) (fault : ProgramFault) (refusal : Refusal) →
    IsRefusal files fault → refusal_of fault ≡ Some refusal → IsRefused files refusal
refusal_is_refused files fault refusal h e = subst (λ o. IfSome o (IsRefused files)) e (told files fault h)
