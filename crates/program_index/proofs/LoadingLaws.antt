-- What loading a file does, by its number.
use Rattle.std.proofs.Common.{◌≡◌, ◌∙◌, ℕ, List, Option, Some, None, ap, sym}
use Rattle.std.proofs.lemmas.Option.{none-some, same_Some}
use Rattle.ruby_types.specs.declared.request.RubyError.{RubyError}
use Rattle.ruby_types.specs.declared.request.Task.{Task}
use Rattle.program_places.specs.Places.{Absent, Fails, AsksFor}
use Rattle.program_files.specs.Files.{UsedFile, file_at}
use Rattle.program_files.specs.Faults.{file_fault}
use Rattle.program_files.specs.Tasks.{loading_at, loading_by}
use Rattle.program_outcomes.specs.Outcomes.{flat, fault_by}
use Rattle.program_tables.specs.Asks.{asks_by, asks_in}
use Rattle.program_index.specs.Content.{Content, used_files}
use Rattle.program_index.specs.Program.{fault_of}
use Rattle.program_index.specs.Lookups.{IsUsedAt, asks_of}
use Rattle.program_index.specs.declared.lookups.Used.{Used}

-- a path of no file that is used is absent
pub loads_none : (p : Content) (path : List ℕ) → file_at (used_files p) path ≡ None →
    loading_at (used_files p) (file_at (used_files p) path) ≡ Absent
loads_none p path h = ap (loading_at (used_files p)) h

module _ (p : Content) (path : List ℕ) (u : Used) (h : IsUsedAt p path u) where
  abbrev fault : Option RubyError
  fault = file_fault (used_files p) h.file

  fault_is : fault_of p u.number ≡ fault
  fault_is = ap (λ (o : Option (Option UsedFile)). fault_by (used_files p) (flat o)) h.at

  asks_are : asks_of p u.number ≡ asks_in (used_files p) h.file fault
  asks_are = ap (λ (o : Option (Option UsedFile)). asks_by (used_files p) (flat o)) h.at

  loads_by : (o : Option RubyError) → fault ≡ o →
      loading_at (used_files p) (file_at (used_files p) path) ≡ loading_by (used_files p) h.file o
  loads_by o e = ap (loading_at (used_files p)) h.found ∙ ap (loading_by (used_files p) h.file) e

  -- a file at fault fails
  pub loads_fault : (error : RubyError) → fault_of p u.number ≡ Some error →
      loading_at (used_files p) (file_at (used_files p) path) ≡ Fails error
  loads_fault error e = loads_by (Some error) (sym fault_is ∙ e)

  -- a file without fault asks for tasks
  pub loads_tasks : (tasks : List Task) → fault_of p u.number ≡ None → asks_of p u.number ≡ Some tasks →
      loading_at (used_files p) (file_at (used_files p) path) ≡ AsksFor tasks
  loads_tasks tasks e a =
      let none = sym fault_is ∙ e in
      loads_by None none
      ∙ ap AsksFor (same_Some _ tasks
      (sym (asks_are ∙ ap (asks_in (used_files p) h.file) none) ∙ a))

  -- and it does ask
  pub loads_some : fault_of p u.number ≡ None → asks_of p u.number ≡ None → ⊥
  loads_some e a =
      none-some _ (sym a ∙ asks_are ∙ ap (asks_in (used_files p) h.file) (sym fault_is ∙ e))
