-- The line that a step of a seat is told by.
use Rattle.std.specs.Prelude.{ℕ, ◌+◌, List, ◌∷◌, ◌++◌, pos, codes}
use Rattle.std.specs.Fmt.{signed_decimal}
use Rattle.plain_text.specs.Quoting.{quoted}
use Rattle.trace_lines.specs.declared.step.Step.{Step}
use Rattle.trace_lines.specs.declared.step.Step.TheVariants.{Idle, Waits, Share, CheckSame, CheckDiffers, SeekUnload}
use Rattle.trace_lines.specs.declared.step.Step.TheVariants.{TakeUnload, Reload, ReloadNone, Release, ReleaseWaits}
use Rattle.trace_lines.specs.declared.step.Step.TheVariants.{Resume, Begin, LookFound, LookMissing, SeekLoad, TakeLoad}
use Rattle.trace_lines.specs.declared.step.Step.TheVariants.{Define, End, Refuse, Unshare}

-- a number in decimal digits
abbrev pub number : ℕ → List ℕ
number n = signed_decimal (pos n)

-- `end 200 1 "hi"`: the status, the generation and the body in quotes
abbrev pub end_text : ℕ → ℕ → List ℕ → List ℕ
end_text status generation body = codes "end " ++ (number status ++ 32 ∷ (number generation ++ 32 ∷ quoted body))

-- `refuse 405 "method not allowed"`: the status and the body in quotes
abbrev pub refuse_text : ℕ → List ℕ → List ℕ
refuse_text status body = codes "refuse " ++ (number status ++ 32 ∷ quoted body)

-- `reload 1`: the number of the new generation
abbrev pub reload_text : ℕ → List ℕ
reload_text generation = codes "reload " ++ number generation

-- `look app/lib/a.rb found`
abbrev pub found_text : List ℕ → List ℕ
found_text name = codes "look " ++ (name ++ codes " found")

-- `look app/lib/a.rb missing`
abbrev pub missing_text : List ℕ → List ℕ
missing_text name = codes "look " ++ (name ++ codes " missing")

-- `seek load app/lib/a.rb`
abbrev pub seek_load_text : List ℕ → List ℕ
seek_load_text name = codes "seek load " ++ name

-- `take load app/lib/a.rb`
abbrev pub take_load_text : List ℕ → List ℕ
take_load_text name = codes "take load " ++ name

-- `define A::B`
abbrev pub define_text : List ℕ → List ℕ
define_text name = codes "define " ++ name

-- what stands behind the seat: `look app/lib/a.rb found`, `end 200 1 "hi"`
abbrev pub step_text : Step → List ℕ
step_text Idle = codes "idle"
step_text Waits = codes "waits"
step_text Share = codes "share"
step_text CheckSame = codes "check same"
step_text CheckDiffers = codes "check differs"
step_text SeekUnload = codes "seek unload"
step_text TakeUnload = codes "take unload"
step_text (Reload generation) = reload_text generation
step_text ReloadNone = codes "reload none"
step_text Release = codes "release"
step_text ReleaseWaits = codes "release waits"
step_text Resume = codes "resume"
step_text Begin = codes "begin"
step_text (LookFound task) = found_text task.now
step_text (LookMissing task) = missing_text task.now
step_text (SeekLoad task) = seek_load_text task.now
step_text (TakeLoad task) = take_load_text task.now
step_text (Define task) = define_text task.now
step_text (End status generation body) = end_text status generation body.now
step_text (Refuse status body) = refuse_text status body.now
step_text Unshare = codes "unshare"

-- the line of a text of a seat, which is counted from 0 and written from 1 on: `1 share`
abbrev pub seat_line : ℕ → List ℕ → List ℕ
seat_line seat text = number (seat + 1) ++ 32 ∷ text

-- the line of a step of a seat
abbrev pub step_line : ℕ → Step → List ℕ
step_line seat step = seat_line seat (step_text step)

-- the line of a text that is logged
abbrev pub log_line : List ℕ → List ℕ
log_line text = codes "log " ++ text

-- the line that names the first line of a script outside the grammar
abbrev pub bad_line : ℕ → List ℕ
bad_line line = codes "line " ++ number line
