-- What a load section goes through.
use Rattle.std.proofs.Common.{◌≡◌, ◌<◌, List, [], ◌∷◌, ◌++◌, append-nil, Some, Contains}
use Rattle.std.proofs.Common.{refl, sym, ap, ◌∙◌, subst, lt_trans}
use Rattle.turn_lock.specs.Entries.{Lags}
use Rattle.by_need.specs.Laws.{Lawful}
use Rattle.by_need.specs.Load.{Defines}
use Rattle.by_need.specs.Rounds.{Rules}
use Rattle.by_need_loader.specs.Progress.{Progress, History, IsOn, WentOn, Tells, begun, nothing_done, left_to_do}
use Rattle.by_need_loader.specs.Runs.{Runs}
use Rattle.by_need_loader.specs.declared.loader.LoadStep.TheVariants as step
use Rattle.by_need_loader.proofs.Goes.{begins}
use Rattle.system_events.specs.declared.event.Kept.{Kept}
use Rattle.system_events.specs.Facts.{Facts, SameIsEqual}
use Rattle.system_events.specs.Steps.{pair_of, IsNeeded}
use Rattle.system_laws.proofs.Keeps.{keeps_after}
use Rattle.request_laws.specs.Conduct.{AreDefines, no_defines, defines}
use Rattle.system_core.specs.Tables.{lookup}
use Rattle.load_sections.specs.Sections.{table_at}
use Rattle.load_sections.specs.Theories.{IsOfTheory}
use Rattle.load_sections.proofs.Defining.{table_defines, define_is_needed}
use Rattle.load_sections.proofs.Tables.{table_is_part}
use Rattle.shop_base.specs.Rows.{IsLoading}
use Rattle.shop_base.specs.Passes.{PassView, seat_limit, seat_of, seen_state, moved, IsPass, Gains}
use Rattle.shop_base.proofs.Gaining.{gains_lags, gains-trans}
use Rattle.shop.specs.Seeking.{LoadsTask}
use Rattle.shop.proofs.Loads.{loads_later}
use Rattle.pass_loads.specs.Loading.{LoadsOn, HasLoader, left_of}
use Rattle.pass_loads.proofs.Steady.{program_of_pass}

module _ {M T V P Q R F : Type 0} where
  defines_append : (xs ys : List (Kept M T V P Q R F)) → AreDefines xs → AreDefines ys → AreDefines (xs ++ ys)
  defines_append _ ys no_defines second = second
  defines_append _ ys (defines task more are) second = defines task (more ++ ys) (defines_append more ys are second)

module _ {M T V P Q R F : Type 0} (f : Facts T V P Q R F) (equal : SameIsEqual f) where
  -- nothing is loaded yet
  pub none_loaded : (p : PassView M T V P Q R F) → LoadsOn f p p
  none_loaded p = record {
    same = refl;
    acts = [];
    are = no_defines;
    gains = record { more = []; is = sym (append-nil p.seen); acts = refl };
    program = refl;
  }

  -- one turn more, or several
  pub loads_more : (start here later : PassView M T V P Q R F) (acts : List (Kept M T V P Q R F)) →
      LoadsOn f start here → IsPass f here → IsPass f later → later ≡ moved here here.row later.seen →
      AreDefines acts → Gains here.number acts here.seen later.seen → IsLoading here.row.seat → LoadsOn f start later
  loads_more start here later acts was is_here is_later same are gains loading =
      let number : here.number ≡ start.number = ap (λ (p : PassView M T V P Q R F). p.number) was.same in
      let row : later.row ≡ here.row = ap (λ (p : PassView M T V P Q R F). p.row) same in
      let runs = ap (λ r. r.running) loading.1.1 in
      record {
        same = same ∙ ap (λ (p : PassView M T V P Q R F). moved p p.row later.seen) was.same;
        acts = was.acts ++ acts;
        are = defines_append was.acts acts was.are are;
        gains = gains-trans start.number was.acts acts start.seen here.seen later.seen was.gains
            (subst (λ n. Gains n acts here.seen later.seen) number gains);
        program = (program_of_pass f equal here later loading.0 is_here is_later
            (ap (λ (p : PassView M T V P Q R F). p.number) same) (gains.more, gains.is) runs
            (ap (λ r. r.seat.running) row ∙ runs)).0
            ∙ was.program;
      }

  -- a turn without an act
  pub looks_on : (start here later : PassView M T V P Q R F) (task : T) → LoadsOn f start here → IsPass f here →
      IsPass f later → later ≡ moved here here.row later.seen → Lags seat_of here.number here.seen later.seen →
      LoadsTask f here task → LoadsOn f start later × LoadsTask f later task
  looks_on start here later task was is_here is_later same lags loads = (
    loads_more start here later [] was is_here is_later same no_defines
        (gains_lags here.number here.seen later.seen lags) loads.loads,
    loads_later f here later task is_here is_later lags (ap (λ (p : PassView M T V P Q R F). p.row.seat) same)
        (ap (λ (p : PassView M T V P Q R F). p.number) same) loads,
  )

-- the theory of the program is that of the same program
pub theory_here : {M T V P Q R F E O : Type 0} (f : Facts T V P Q R F) (r : Rules T V E O)
    (start here : PassView M T V P Q R F) → LoadsOn f start here → IsOfTheory f (seen_state f start).counts.program r →
    IsOfTheory f (seen_state f here).counts.program r
theory_here f r start here on of = subst (λ p. IsOfTheory f p r) (sym on.program) of

module _ {M T V P Q R F E O G W N : Type 0} (f : Facts T V P Q R F) (r : Rules T V E O) (m : Runs T V E O G W N)
    (sought : T) where
  -- what the loader has done
  abbrev pub history_of : (p : PassView M T V P Q R F) (loader : Progress T G W N) → HasLoader f r m p sought loader →
      History T V
  history_of p loader has =
      record { wanted = sought; at_first = has.at_first; made = has.made; table = table_at f (seen_state f p) }

module _ {M T V P Q R F E O G W N : Type 0} (f : Facts T V P Q R F) (equal : SameIsEqual f) (r : Rules T V E O)
    (laws : Lawful r) (m : Runs T V E O G W N) (sought : T) where
  -- a loader of the task begins on its section
  pub loader_begins : (p : PassView M T V P Q R F) → IsPass f p → IsOfTheory f (seen_state f p).counts.program r →
      Contains (f.tasks (seen_state f p).counts.program) sought → LoadsTask f p sought →
      HasLoader f r m p sought (begun sought)
  loader_begins p is of task loads = record {
    loads = loads;
    at_first = table_at f (seen_state f p);
    made = [];
    ready = tt;
    on = begins r m laws (nothing_done sought (table_at f (seen_state f p))) sought (table_at f (seen_state f p))
        (of.tasks sought task)
        (table_is_part f equal r (seen_state f p).counts.program (seen_state f p).table of
        (keeps_after f equal seat_limit p.seen is.legal).table.0);
  }

  -- a look that was answered
  pub loader_looked : (p q : PassView M T V P Q R F) (loader told next : Progress T G W N) (asked : T)
      (has : HasLoader f r m p sought loader) →
      Tells r m (history_of f r m sought p loader has) (left_of f r m p loader) told (step.Look asked) →
      (seen_state f q).table ≡ (seen_state f p).table → LoadsTask f q sought →
      WentOn r m (history_of f r m sought p loader has) told next →
      HasLoader f r m q sought next × (left_of f r m q next < left_of f r m p loader)
  loader_looked p q loader told next asked has tells table loads went = (
    record {
      loads = loads;
      at_first = has.at_first;
      made = has.made;
      ready = went.ready;
      on = subst (λ (t : List (T × V)). IsOn r m (record {
        wanted = sought;
        at_first = has.at_first;
        made = has.made;
        table = λ task. lookup f task t;
      }) next) (sym table) went.on;
    },
    subst (λ (t : List (T × V)). left_to_do r m (record {
      wanted = sought;
      at_first = has.at_first;
      made = has.made;
      table = λ task. lookup f task t;
    }) next < left_of f r m p loader) (sym table) (lt_trans went.less tells.2),
  )

  -- a task that was defined
  pub loader_defined : (p q : PassView M T V P Q R F) (loader told : Progress T G W N) (task : T) (value : V)
      (has : HasLoader f r m p sought loader) → IsOfTheory f (seen_state f p).counts.program r →
      Tells r m (history_of f r m sought p loader has) (left_of f r m p loader) told (step.Define task value) →
      (seen_state f q).table ≡ (seen_state f p).table ++ (task, value) ∷ [] → LoadsTask f q sought →
      HasLoader f r m q sought told × (left_of f r m q told < left_of f r m p loader)
  loader_defined p q loader told task value has of tells table loads =
      let known : f.known (seen_state f p).counts.program task ≡ Some value = of.known_of task ∙ tells.2 in
      let grown : (seen_state f q).table ≡ (seen_state f p).table
      ++ pair_of task (f.known (seen_state f p).counts.program task) =
      table ∙ ap (λ o. (seen_state f p).table ++ pair_of task o) (sym known) in
      let new : Defines r (table_at f (seen_state f p)) task value (table_at f (seen_state f q)) =
      subst (λ (t : List (T × V)). Defines r (table_at f (seen_state f p)) task value (λ other. lookup f other t))
      (sym grown) (table_defines f equal r laws (seen_state f p) p.number task value known tells.1) in
      let next = tells.4 (table_at f (seen_state f q)) new in (
        record {
          loads = loads;
          at_first = has.at_first;
          made = has.made ++ (task, value) ∷ [];
          ready = tells.0;
          on = next.0;
        },
        next.1,
      )

  -- the task that is to be defined may be
  pub define_is_allowed : (p : PassView M T V P Q R F) (loader told : Progress T G W N) (task : T) (value : V)
      (has : HasLoader f r m p sought loader) → IsOfTheory f (seen_state f p).counts.program r →
      Tells r m (history_of f r m sought p loader has) (left_of f r m p loader) told (step.Define task value) →
      IsNeeded f (seen_state f p) p.number task
  define_is_allowed p loader told task value has of tells =
      define_is_needed f equal r laws m sought has.at_first (seen_state f p) p.number told has.made
      (left_of f r m p loader) task value of has.loads.section tells
