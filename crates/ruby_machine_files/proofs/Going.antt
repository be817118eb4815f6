-- How the runs of tasks go on.
use Rattle.std.proofs.Common.{◌≡◌, ◌∙◌, ℕ, suc, ◌<◌, ◌≤◌, List, [], ◌∷◌, drop, length, true, false, sym, ap}
use Rattle.std.proofs.Common.{add-one, ◌+◌}
use Rattle.std.specs.Prelude.{Result, Ok, Err, Some, slice_get}
use Rattle.std.proofs.Math.Seq.{drop-cons}
use Rattle.std.proofs.lemmas.List.{drop_all}
use Rattle.std.proofs.lemmas.Option.{get_or_from_slice_get}
use Rattle.by_need.specs.Asking.{Gives, Ask, Error}
use Rattle.ruby_types.specs.declared.request.Task.{Task}
use Rattle.ruby_types.specs.declared.value.Value.{Value}
use Rattle.program_places.specs.Places.{Index, AsksFor}
use Rattle.ruby_runs.specs.Doing.{Here, Meaning, spent}
use Rattle.ruby_machine_names.specs.Steps.{Fails, Spends}
use Rattle.ruby_machine_names.specs.declared.here.Failure.{Failure}
use Rattle.ruby_machine_names.specs.declared.here.Failure.TheVariants as failure
use Rattle.ruby_machine_files.specs.Files.{TaskGoes, asks_from, file_alone, rest_of_file, waits}
use Rattle.ruby_machine_files.specs.declared.step.TaskStep.{TaskStep}
use Rattle.ruby_machine_files.specs.declared.step.TaskStep.TheVariants as step

-- what is equal goes on alike
pub go_along : {W : Type 0} (later : W → Value → Meaning) (before before' : Meaning)
    (r : Result (TaskStep W) Failure) → before ≡ before' → TaskGoes later before' r → TaskGoes later before r
go_along later before before' (Ok (step.Done value)) same k = same ∙ k
go_along later before before' (Ok (step.Asks task wait)) same k = same ∙ k
go_along later before before' (Err (failure.Raised error)) same k = same ∙ k
go_along later before before' (Err failure.Memory) same k = tt

module _ (index : Index) (tasks : List Task) (file : List ℕ) (place : ℕ) where
  -- behind the last task nothing is left
  pub none_left : (turns : ℕ) → length tasks ≤ place →
      asks_from index file (drop place tasks) turns ≡ asks_from index file [] turns
  none_left turns past = ap (λ ts. asks_from index file ts turns) (drop_all place tasks past)

  module _ (task : Task) where
    -- the task at the place comes first
    pub first_left : (turns : ℕ) → slice_get tasks place ≡ Some task → place < length tasks →
        asks_from index file (drop place tasks) turns
        ≡ asks_from index file (task ∷ drop (suc place) tasks) turns
    first_left turns is lt = ap (λ ts. asks_from index file ts turns)
        (drop-cons tasks place task lt ∙ ap (λ t. t ∷ drop (suc place) tasks) (get_or_from_slice_get tasks place task
        task is))

    -- no turn is left for it
    pub unasked : (old new : ℕ) (here : Here) (f : Failure) → slice_get tasks place ≡ Some task →
        place < length tasks → Spends old false new → here ≡ file_alone file → Fails (spent here) f →
        TaskGoes (waits index) (asks_from index file (drop place tasks) old) (Err f)
    unasked old new here (failure.Raised error) is lt none at fails =
        first_left old is lt ∙ (ap (λ n. asks_from index file (task ∷ drop (suc place) tasks) n) none.0
        ∙ ap (λ e. Gives (Error e)) (sym (fails ∙ ap spent at)))
    unasked old new here failure.Memory is lt none at fails = tt

    -- it is asked for, and the others behind it
    pub asked : (old new : ℕ) (needed : Task) → slice_get tasks place ≡ Some task → place < length tasks →
        Spends old true new → index.loading file ≡ AsksFor tasks → needed ≡ task →
        TaskGoes (waits index) (asks_from index file (drop place tasks) old)
        (Ok (step.Asks needed (record { file = file; place = place + 1; turns = new })))
    asked old new needed is lt some loads same =
        first_left old is lt ∙ (ap (λ n. asks_from index file (task ∷ drop (suc place) tasks) n) some
        ∙ (ap (λ n. Ask task (λ v. asks_from index file (drop n tasks) new)) (sym (add-one place))
        ∙ (ap (λ l. Ask task (λ v. rest_of_file index file (place + 1) l new)) (sym loads)
        ∙ ap (λ t. Ask t (λ v. rest_of_file index file (place + 1) (index.loading file) new)) (sym same))))
