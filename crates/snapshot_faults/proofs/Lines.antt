-- No line of a configuration has want of memory for its fault.
use Rattle.std.proofs.Common.{◌≢◌, ℕ, ◌+◌, Bool, true, false, List, [], ◌∷◌, Option, Some, None, refl, subst}
use Rattle.std.specs.Prelude.{All, Result, Ok, Err, bytes_eq, codes, if◌then◌else◌}
use Rattle.std.specs.Str.{is_utf8}
use Rattle.std.proofs.lemmas.List.Elements.{All-append, All-cons, All-head, All-nil}
use Rattle.app_config.specs.Configuration.{IsFirst, fault_said, faults, faults_from}
use Rattle.app_config.specs.Entries.{mapped, directive_of, constant_path, root_at, root_entry, pattern, inflect_entry}
use Rattle.app_config.specs.Entries.{on_load_entry, directed, worded, entry, is_blank, meaning}
use Rattle.app_config.specs.Paths.{constant_names, is_constant, is_constant_path, is_tree_path}
use Rattle.app_config.specs.Text.{behind_spaces, behind_word, lines, words}
use Rattle.app_config.specs.declared.config.ConfigFault.{ConfigFault}
use Rattle.app_config.specs.declared.config.ConfigKind.{ConfigKind}
use Rattle.app_config.specs.declared.config.ConfigKind.TheVariants.{BadName, BadPath, NotUtf8}
use Rattle.app_config.specs.declared.entries.Entry.{Entry}
use Rattle.app_config.specs.declared.entries.Entry.TheVariants.{Root, Collapse, Ignore, SkipEager, Inflect, OnLoad}
use Rattle.outside.specs.declared.files.FileEntry.{FileEntry}
use Rattle.tree_report.specs.Configurations.{configuration_text}
use Rattle.tree_scan.specs.declared.fault.ScanFault.{ScanFault}
use Rattle.tree_scan.specs.declared.fault.ScanFault.TheVariants as scan
use Rattle.program_snapshots.specs.Refusals.{IsRefusal, IsScanRefusal}
use Rattle.program_snapshots.specs.declared.fault.ProgramFault.{ProgramFault}
use Rattle.program_snapshots.specs.declared.fault.ProgramFault.TheVariants.{Limit, Config, Scan, Memory}
use Rattle.snapshot_faults.specs.Faults.{IsFaultOfFiles, IsLineFault, IsNameFault}

-- what is said is no want of memory
abbrev IsSaid : {A : Type 0} → Result A ConfigKind → Type 0
IsSaid (Ok value) = Unit {0}
IsSaid (Err kind) = IsLineFault kind

either_said : {A : Type 0} (b : Bool) (x y : Result A ConfigKind) → IsSaid x → IsSaid y → IsSaid (if b then x else y)
either_said true x y h k = h
either_said false x y h k = k

mapped_said : {A B : Type 0} (make : A → B) (read : Result A ConfigKind) → IsSaid read → IsSaid (mapped make read)
mapped_said make (Ok value) h = tt
mapped_said make (Err kind) h = h

path_said : (word : List ℕ) → IsSaid (constant_path word)
path_said word = either_said (is_constant_path word) (Ok (constant_names word)) (Err BadName) tt tt

root_at_said : (path : List ℕ) (namespace : Result (List (List ℕ)) ConfigKind) → IsSaid namespace →
    IsSaid (root_at path namespace)
root_at_said path namespace h = either_said (is_tree_path path)
    (mapped (λ names. Root (record { path = path; namespace = names })) namespace) (Err BadPath)
    (mapped_said (λ names. Root (record { path = path; namespace = names })) namespace h) tt

root_said : (operands : List (List ℕ)) → IsSaid (root_entry operands)
root_said [] = tt
root_said (path ∷ []) = root_at_said path (Ok []) tt
root_said (path ∷ namespace ∷ []) = root_at_said path (constant_path namespace) (path_said namespace)
root_said (path ∷ namespace ∷ word ∷ operands) = tt

pattern_said : (operands : List (List ℕ)) → IsSaid (pattern operands)
pattern_said [] = tt
pattern_said (path ∷ []) = either_said (is_tree_path path) (Ok path) (Err BadPath) tt tt
pattern_said (path ∷ word ∷ operands) = tt

inflect_said : (operands : List (List ℕ)) → IsSaid (inflect_entry operands)
inflect_said [] = tt
inflect_said (base ∷ []) = tt
inflect_said (base ∷ constant ∷ []) =
    either_said (is_constant constant) (Ok (Inflect (base, constant))) (Err BadName) tt tt
inflect_said (base ∷ constant ∷ word ∷ operands) = tt

on_load_said : (operands : List (List ℕ)) (text : List ℕ) → IsSaid (on_load_entry operands text)
on_load_said [] text = tt
on_load_said (constant ∷ []) text = tt
on_load_said (constant ∷ word ∷ operands) text =
    mapped_said (λ names. OnLoad (record { constant = names; text = text })) (constant_path constant)
    (path_said constant)

chosen_said : {D : Type 0} (P : D → Type 0) (b : Bool) (x y : D) → P x → P y → P (if b then x else y)
chosen_said P true x y h k = h
chosen_said P false x y h k = k

directed_said : (word : List ℕ) (operands : List (List ℕ)) (text : List ℕ) →
    IsSaid (directed (directive_of word) operands text)
directed_said word operands text =
    chosen_said (λ d. IsSaid (directed d operands text)) (bytes_eq word (codes "root")) _ _ (root_said operands)
    (chosen_said (λ d. IsSaid (directed d operands text)) (bytes_eq word (codes "collapse")) _ _
    (mapped_said Collapse (pattern operands) (pattern_said operands))
    (chosen_said (λ d. IsSaid (directed d operands text)) (bytes_eq word (codes "ignore")) _ _
    (mapped_said Ignore (pattern operands) (pattern_said operands))
    (chosen_said (λ d. IsSaid (directed d operands text)) (bytes_eq word (codes "skip_eager")) _ _
    (mapped_said SkipEager (pattern operands) (pattern_said operands))
    (chosen_said (λ d. IsSaid (directed d operands text)) (bytes_eq word (codes "inflect")) _ _
    (inflect_said operands)
    (chosen_said (λ d. IsSaid (directed d operands text)) (bytes_eq word (codes "on_load")) _ _
    (on_load_said operands text) tt)))))

worded_said : (ws : List (List ℕ)) (text : List ℕ) → IsSaid (worded ws text)
worded_said [] text = tt
worded_said (word ∷ operands) text = directed_said word operands text

entry_said : (line : List ℕ) → IsSaid (entry line)
entry_said line = either_said (is_utf8 line)
    (worded (words line) (behind_spaces (behind_word (behind_word line)))) (Err NotUtf8)
    (worded_said (words line) (behind_spaces (behind_word (behind_word line)))) tt

line_said : (line : List ℕ) → IsSaid (meaning line)
line_said line = either_said (is_blank line) (Ok None) (mapped Some (entry line)) tt
    (mapped_said Some (entry line) (entry_said line))

abbrev IsOfLine : ConfigFault → Type 0
IsOfLine fault = IsLineFault fault.kind

fault_of_line : (number : ℕ) (said : Result (Option Entry) ConfigKind) → IsSaid said →
    All IsOfLine (fault_said number said)
fault_of_line number (Ok value) h = All-nil IsOfLine
fault_of_line number (Err kind) h = All-cons IsOfLine (record { line = number; kind = kind }) [] h (All-nil IsOfLine)

faults_of_lines : (number : ℕ) (ls : List (List ℕ)) → All IsOfLine (faults_from number ls)
faults_of_lines number [] = All-nil IsOfLine
faults_of_lines number (line ∷ rest) = All-append IsOfLine (fault_said number (meaning line))
    (faults_from (number + 1) rest) (fault_of_line number (meaning line) (line_said line))
    (faults_of_lines (number + 1) rest)

-- the faults of a text are those of its lines
pub faults_are_of_lines : (text : List ℕ) → All IsOfLine (faults text)
faults_are_of_lines text = faults_of_lines 1 (lines text)

first_is_of_line : (fault : ConfigFault) (all : List ConfigFault) → All IsOfLine all → IsFirst fault all →
    IsOfLine fault
first_is_of_line fault all each first =
    All-head IsOfLine fault first.0 (subst (All IsOfLine) first.1 each)

scan_is_of_names : (files : List FileEntry) (fault : ScanFault) → IsScanRefusal files fault → IsNameFault fault
scan_is_of_names files (scan.TwoRoots path) h = tt
scan_is_of_names files (scan.BadName path) h = tt
scan_is_of_names files scan.Memory h = absurd h

-- what refuses files, and isn't want of memory, is a fault of files
pub refusal_is_of_files : (files : List FileEntry) (fault : ProgramFault) → IsRefusal files fault → fault ≢ Memory →
    IsFaultOfFiles fault
refusal_is_of_files files (Limit limit number) h n = tt
refusal_is_of_files files (Config fault) h n = first_is_of_line fault (faults (configuration_text files))
    (faults_are_of_lines (configuration_text files)) h.1
refusal_is_of_files files (Scan fault) h n = scan_is_of_names files fault h
refusal_is_of_files files Memory h n = absurd (n refl)
