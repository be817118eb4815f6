-- What is known of an application stands in it.
use Rattle.std.proofs.Common.{◌≡◌, ℕ, zero, suc, Option, inl, inr, subst, length}
use Rattle.by_need.specs.Asking.{Done, over}
use Rattle.by_need.specs.Rounds.{Part, round, known}
use Rattle.by_need.proofs.Rounds.{origin}
use Rattle.ruby_types.specs.declared.request.Task.{Task}
use Rattle.ruby_types.specs.declared.request.Task.TheVariants as task
use Rattle.ruby_types.specs.declared.value.Value.{Value}
use Rattle.ruby_types.specs.declared.value.Value.TheVariants.{Nil}
use Rattle.ruby_runs.specs.Asked.{IsRequest}
use Rattle.ruby_runs.specs.Doing.{pure}
use Rattle.ruby_runs.specs.Bodies.{Call}
use Rattle.program_theory.specs.Applications.{Application, index_in, rules_of}
use Rattle.program_theory.proofs.Lawful.{rules_lawful}
use Rattle.program_theory.proofs.Tasks.{tasks_are_no_requests}
use Rattle.program_values.specs.Guarded.{guarded_meaning}
use Rattle.program_values.specs.Standing.{Stands, AllStand, NamesNothingNew, IsWritten, ParamsStand}
use Rattle.program_values.proofs.Keeps.{EndStands}
use Rattle.program_values.proofs.Runs.{meaning_agrees}

-- what is part of what stands stands
pub part_stands : (app : Application) (K L : Task → Option Value) → Part K L → AllStand (index_in app) L →
    AllStand (index_in app) K
part_stands app K L part all t v h = all t v (part.keeps t v h)

load_params : (app : Application) (t : Task) → (IsRequest t → ⊥) → ParamsStand (index_in app) t
load_params app (task.File file) n = tt
load_params app (task.Const path) n = tt
load_params app (task.Ancestors path) n = tt
load_params app (task.Request request) n = absurd (n tt)

abbrev any_call : Call
any_call here on name args = pure Nil

module _ (app : Application) (nothing_new : NamesNothingNew (index_in app) app.rows)
    (written : IsWritten (index_in app)) where
  -- what a run over values that stand is done with stands
  pub done_stands : (K : Task → Option Value) → AllStand (index_in app) K → (t : Task) →
      ParamsStand (index_in app) t → (v : Value) → ((rules_of app).run t K).answer ≡ Done v → Stands (index_in app) v
  done_stands K all t params v e = subst (EndStands (index_in app) K all) e
      (meaning_agrees (index_in app) app.rows app.limits any_call K all nothing_new written t params).1

  round_stands : (n : ℕ) → AllStand (index_in app) (round (rules_of app) n)
  round_stands zero t v h = absurd cc
  round_stands (suc n) t v h = elim (origin (rules_of app) (rules_lawful app) n t v h) [
    | inl k ↦ round_stands n t v k
    | inr done ↦ done_stands (round (rules_of app) n) (round_stands n) t
        (load_params app t (tasks_are_no_requests app t done.0)) v done.1
  ]

  -- all that is known stands
  pub known_stands : AllStand (index_in app) (known (rules_of app))
  known_stands = round_stands (length (rules_of app).tasks)

  -- over a part of what is known calls may be guarded
  pub guarded_alike : (other : Call) (t : Task) → ParamsStand (index_in app) t → (K : Task → Option Value) →
      Part K (known (rules_of app)) →
      (rules_of app).run t K ≡ over K (guarded_meaning (index_in app) app.rows app.limits other t)
  guarded_alike other t params K part = (meaning_agrees (index_in app) app.rows app.limits other K
      (part_stands app K (known (rules_of app)) part known_stands) nothing_new written t params).0
