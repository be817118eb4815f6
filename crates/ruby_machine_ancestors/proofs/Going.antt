-- How the run of an ancestors' task goes on, step by step.
use Rattle.std.proofs.Common.{◌≡◌, ◌<◌, ◌≤◌, ℕ, suc, true, false, List, [], ◌∷◌, ◌++◌, length, drop, get_or, map}
use Rattle.std.proofs.Common.{Option}
use Rattle.std.proofs.Common.{Some, None, sym, ap, subst, ◌∙◌, arith, ◌+◌}
use Rattle.std.proofs.Math.Path.{fun_ext}
use Rattle.std.proofs.Math.Seq.{drop-cons}
use Rattle.std.proofs.lemmas.List.{append_assoc, append-nil, drop_all, get_or-map, length-append, length-map}
use Rattle.std.specs.Prelude.{Result, Ok, Err, if◌then◌else◌, ◌||◌}
use Rattle.by_need.specs.Asking.{Gives, Ask, Error}
use Rattle.by_need.specs.Asking as asking
use Rattle.ruby_types.specs.declared.request.Task.{Task}
use Rattle.ruby_types.specs.declared.request.Task.TheVariants as task
use Rattle.ruby_types.specs.declared.value.Value.{Value}
use Rattle.program_places.specs.Paths.{Path}
use Rattle.program_places.specs.Places.{Index, Mention, Opening}
use Rattle.program_lookups.specs.Codes.{mention_of, opening_of}
use Rattle.program_lookups.specs.declared.code.MentionCode.{MentionCode}
use Rattle.ruby_runs.specs.Doing.{Doing, Going, Here, Meaning, pure, ◌>>=◌, spent}
use Rattle.ruby_runs.specs.Names as names
use Rattle.ruby_runs.specs.Names.{Found, members_of}
use Rattle.ruby_runs.specs.Bodies.{is_class_at}
use Rattle.ruby_runs.specs.Runs.{all_members, ancestors_of, looked_up, parent_members, run_limits}
use Rattle.ruby_machine_names.specs.Profile.{profile}
use Rattle.ruby_machine_names.specs.Names.{AncestorsBy, later}
use Rattle.ruby_machine_names.specs.Steps.{ComesTo, Ends, EndsAt, Fails, Spends}
use Rattle.ruby_machine_names.specs.declared.here.Failure.{Failure}
use Rattle.ruby_machine_names.specs.declared.here.Failure.TheVariants as failure
use Rattle.ruby_machine_names.proofs.Going.{AsksFor_from, ComesTo_from, EndsAt_from, ends_at}
use Rattle.ruby_machine_ancestors.specs.Ancestors.{MentionGoes, behind, goes_on}
use Rattle.ruby_machine_ancestors.specs.Ancestors.{includes_at, joined, judged, mentioned, no_class, no_module}
use Rattle.ruby_machine_ancestors.specs.Ancestors.{waited, waits}
use Rattle.ruby_machine_ancestors.specs.Ancestors.{with_members}
use Rattle.ruby_machine_ancestors.specs.declared.mentions.Role.{Role}
use Rattle.ruby_machine_ancestors.specs.declared.mentions.Role.TheVariants as role
use Rattle.ruby_machine_ancestors.specs.declared.mentions.Awaits.{Awaits}
use Rattle.ruby_machine_ancestors.specs.declared.mentions.Awaits.TheVariants as awaits
use Rattle.ruby_machine_ancestors.specs.declared.mentions.MentionStep.{MentionStep}
use Rattle.ruby_machine_ancestors.specs.declared.mentions.MentionStep.TheVariants as mention_step
use Rattle.ruby_machine_ancestors.specs.declared.run.AncestorsRun.{AncestorsRun}
use Rattle.ruby_machine_files.specs.Files.{TaskGoes, file_alone, finish}
use Rattle.ruby_machine_files.specs.declared.step.TaskStep.TheVariants as step

-- a mention goes on as its later part does
pub MentionGoes_from : (later : Awaits → Value → Doing (List Path)) (d d' : Doing (List Path)) (old old' : ℕ)
    (r : Result MentionStep Failure) (new : ℕ) → ((go : Going (List Path)) → d old go ≡ d' old' go) → old' ≤ old →
    MentionGoes later d' old' r new → MentionGoes later d old r new
MentionGoes_from later d d' old old' (Ok (mention_step.Members members)) new same le k =
    ComesTo_from d d' old old' same members new le k
MentionGoes_from later d d' old old' (Ok (mention_step.Asks task awaits)) new same le k =
    AsksFor_from d d' old old' same (later awaits) task new le k
MentionGoes_from later d d' old old' (Err f) new same le k = EndsAt_from d d' old old' same f k

module _ (index : Index) (file : List ℕ) where
  -- ancestors that aren't asked for are the module alone
  pub alone_goes : (role : Role) (path : Path) (members : List Path) (turns : ℕ) → AncestorsBy index path false →
      members ≡ path ∷ [] →
      MentionGoes (waited index file role) (names.ancestors index profile (file_alone file) path) turns
      (Ok (mention_step.Members members)) turns
  alone_goes role path members turns by is = (
    λ go. ap (λ (d : Doing (List Path)). d turns go) (by (file_alone file)) ∙ ap (λ ps. go ps turns) (sym is),
    omega arith,
  )

  -- for ancestors a turn is begun
  pub asked_goes : (role : Role) (path : Path) (old new : ℕ) → AncestorsBy index path true → Spends old true new →
      MentionGoes (waited index file role) (names.ancestors index profile (file_alone file) path) old
      (Ok (mention_step.Asks (task.Ancestors path) awaits.Ancestors)) new
  asked_goes role path old new by is = (
    λ go. ap (λ (d : Doing (List Path)). d old go) (by (file_alone file))
        ∙ ap (λ n. names.asked_ancestors index profile (file_alone file) path n go) is,
    omega (arith, is),
  )

  -- or none is left
  pub unasked_goes : (role : Role) (path : Path) (old new : ℕ) (here : Here) (f : Failure) →
      AncestorsBy index path true → Spends old false new → here ≡ file_alone file → Fails (spent here) f →
      MentionGoes (waited index file role) (names.ancestors index profile (file_alone file) path) old (Err f) new
  unasked_goes role path old new here (failure.Raised error) by is at fails =
      λ go. ap (λ (d : Doing (List Path)). d old go) (by (file_alone file))
      ∙ (ap (λ n. names.asked_ancestors index profile (file_alone file) path n go) is.0
      ∙ ap (λ e. Gives (Error e)) (sym (fails ∙ ap spent at)))
  unasked_goes role path old new here failure.Memory by is at fails = tt

  module _ (role' : Role) (found : Found) (old : ℕ) where
    abbrev later' : Awaits → Value → Doing (List Path)
    later' = waited index file role'

    abbrev asked : Doing (List Path)
    asked = names.ancestors index profile (file_alone file) found.path

    -- a parent that is a class
    pub parent_goes : (r : Result MentionStep Failure) (new : ℕ) → role' ≡ role.Parent →
        is_class_at (index.place found.path) ≡ true →
        MentionGoes later' asked old r new → MentionGoes later' (judged index file role' found) old r new
    parent_goes r new is class k =
        subst (λ x. MentionGoes later' (judged index file x found) old r new) (sym is)
        (subst (λ b. MentionGoes later' (if b then asked else no_class file) old r new) (sym class) k)

    -- a parent that is none
    pub parent_refused : (f : Failure) → role' ≡ role.Parent → is_class_at (index.place found.path) ≡ false →
        Ends (no_class {A = List Path} file) f → MentionGoes later' (judged index file role' found) old (Err f) old
    parent_refused f is class k =
        subst (λ x. MentionGoes later' (judged index file x found) old (Err f) old) (sym is)
        (subst (λ b. MentionGoes later' (if b then asked else no_class file) old (Err f) old) (sym class)
        (ends_at (no_class {A = List Path} file) old f k))

    -- an included module
    pub include_goes : (r : Result MentionStep Failure) (new : ℕ) → role' ≡ role.Included →
        (found.assigned || is_class_at (index.place found.path)) ≡ false →
        MentionGoes later' asked old r new → MentionGoes later' (judged index file role' found) old r new
    include_goes r new is module' k =
        subst (λ x. MentionGoes later' (judged index file x found) old r new) (sym is)
        (subst (λ b. MentionGoes later' (if b then no_module file else asked) old r new) (sym module') k)

    -- what is none
    pub include_refused : (f : Failure) → role' ≡ role.Included →
        (found.assigned || is_class_at (index.place found.path)) ≡ true →
        Ends (no_module {A = List Path} file) f → MentionGoes later' (judged index file role' found) old (Err f) old
    include_refused f is module' k =
        subst (λ x. MentionGoes later' (judged index file x found) old (Err f) old) (sym is)
        (subst (λ b. MentionGoes later' (if b then no_module file else asked) old (Err f) old) (sym module')
        (ends_at (no_module {A = List Path} file) old f k))

  -- a constant that was found is judged
  pub found_goes : (role : Role) (d : Doing Found) (found : Found) (old mid : ℕ) (r : Result MentionStep Failure)
      (new : ℕ) → ComesTo d old found mid →
      MentionGoes (waited index file role) (judged index file role found) mid r new →
      MentionGoes (waited index file role) (d >>= judged index file role) old r new
  found_goes role d found old mid r new come k =
      MentionGoes_from (waited index file role) (d >>= judged index file role) (judged index file role found) old mid
      r new (λ go. come.0 (λ x left. judged index file role x left go)) come.1 k

  -- a failure ends the mention
  pub failed_goes : (role : Role) (d : Doing Found) (old new : ℕ) (f : Failure) → EndsAt d old f →
      MentionGoes (waited index file role) (d >>= judged index file role) old (Err f) new
  failed_goes role d old new (failure.Raised error) k = λ go. k (λ x left. judged index file role x left go)
  failed_goes role d old new failure.Memory k = tt

module _ (index : Index) (run : AncestorsRun) (role' : Role) (d : Doing (List Path)) (old : ℕ) where
  -- a failure ends the run
  pub failed_run : (new : ℕ) (f : Failure) → MentionGoes (waited index run.file role') d old (Err f) new →
      TaskGoes (waits index) (d old (with_members index run role')) (Err f)
  failed_run new (failure.Raised error) k = k (with_members index run role')
  failed_run new failure.Memory k = tt

  -- what the mention asks for the run asks for
  pub asked_run : (new : ℕ) (task : Task) (a : Awaits) →
      MentionGoes (waited index run.file role') d old (Ok (mention_step.Asks task a)) new →
      TaskGoes (waits index) (d old (with_members index run role'))
      (Ok (step.Asks task (record { run = record run { turns = new }; role = role'; awaits = a })))
  asked_run new task a k = k.0 (with_members index run role')

-- an include that is left is the next mention
module _ (index : Index) (run : AncestorsRun) (includes : List MentionCode) (mention : MentionCode) where
  abbrev done : ℕ
  done = length run.includes

  abbrev included : Doing (List Path)
  included = mentioned index run.file role.Included (mention_of mention)

  left_first : mention ≡ get_or includes done mention → done < length includes →
      drop done (map mention_of includes) ≡ mention_of mention ∷ drop (suc done) (map mention_of includes)
  left_first is lt =
      drop-cons (map mention_of includes) done (mention_of mention) (omega (arith, length-map includes mention_of, lt))
      ∙ ap (λ m. m ∷ drop (suc done) (map mention_of includes))
      (get_or-map mention_of includes done mention (mention_of mention) lt ∙ ap mention_of (sym is))

  abbrev then_others : List Mention → (List Path → List (List Path) → List (List Path)) → Going (List Path)
  then_others more put members turns = all_members index profile run_limits run.file more turns
      (λ others left. finish (joined run.path run.parent (put members others)) left)

  abbrev one_by_one : List Path → List (List Path) → List (List Path)
  one_by_one members others = run.includes ++ (members ∷ others)

  abbrev others_behind : List Path → List (List Path) → List (List Path)
  others_behind members others = (run.includes ++ members ∷ []) ++ others

  same_order : one_by_one ≡ others_behind
  same_order = fun_ext (λ members. fun_ext (λ others. sym (append_assoc run.includes (members ∷ []) others)))

  next_at : mention ≡ get_or includes done mention → done < length includes →
      map mention_of includes ≡ includes_at index run.path →
      goes_on index run ≡ included run.turns (with_members index run role.Included)
  next_at is lt all =
      ap (λ l. behind index run run.parent run.includes (drop done l) run.turns finish) (sym all)
      ∙ (ap (λ l. behind index run run.parent run.includes l run.turns finish) (left_first is lt)
      ∙ (ap (λ put. included run.turns (then_others (drop (suc done) (map mention_of includes)) put)) same_order
      ∙ ap (λ l. included run.turns (then_others (drop (suc done) l) others_behind)) all))

  module _ (at : ℕ) (count : done ≡ at) (is : mention ≡ get_or includes at mention) (lt : at < length includes)
      (all : map mention_of includes ≡ includes_at index run.path) where
    -- the includes that are left are the next one, and then the others
    pub next_include : goes_on index run ≡ included run.turns (with_members index run role.Included)
    next_include = next_at (subst (λ n. mention ≡ get_or includes n mention) (sym count) is)
        (subst (λ n. n < length includes) (sym count) lt) all

    -- what the next include came to is one of those before the others
    pub include_came : (members : List Path) (more : List (List Path)) (new : ℕ) →
        ComesTo included run.turns members new → more ≡ run.includes ++ members ∷ [] →
        goes_on index run ≡ goes_on index (record run { includes = more; turns = new })
    include_came members more new come is' =
        let one : suc done ≡ length (run.includes ++ members ∷ []) =
        omega (arith, length-append run.includes (members ∷ [])) in
        next_include ∙ (come.0 (with_members index run role.Included)
        ∙ (ap (λ n. behind index run run.parent (run.includes ++ members ∷ [])
        (drop n (includes_at index run.path)) new finish) one
        ∙ ap (λ ds. behind index run run.parent ds (drop (length ds) (includes_at index run.path)) new finish)
        (sym is')))

    -- so one more is done
    pub one_more : (members : List Path) (more : List (List Path)) → more ≡ run.includes ++ members ∷ [] →
        length more ≡ at + 1
    one_more members more is' = omega (arith, ap length is', length-append run.includes (members ∷ []), count)

-- behind the last include the list is joined
pub none_left : (index : Index) (run : AncestorsRun) (includes : List MentionCode) (value : Value) →
    map mention_of includes ≡ includes_at index run.path → length includes ≤ length run.includes →
    value ≡ joined run.path run.parent run.includes → goes_on index run ≡ Gives (asking.Value value)
none_left index run includes value all past is =
    ap (λ l. behind index run run.parent run.includes (drop (length run.includes) l) run.turns finish) (sym all)
    ∙ (ap (λ l. behind index run run.parent run.includes l run.turns finish)
    (drop_all (length run.includes) (map mention_of includes) (omega (
      arith,
      length-map includes mention_of,
      past,
    )))
    ∙ (ap (λ ds. finish (joined run.path run.parent ds) run.turns) (append-nil run.includes)
    ∙ ap (λ v. Gives (asking.Value v)) (sym is)))

module _ (index : Index) (run : AncestorsRun) where
  abbrev opened : Opening
  opened = opening_of (index.place run.path)

  -- the whole, by its parent
  abbrev whole : Option Mention → Meaning
  whole parent = (parent_members index profile run_limits run.file parent >>= (λ members.
      all_members index profile run_limits run.file opened.includes >>= (λ others.
      pure (joined run.path members others)))) run.turns finish

  -- the members of the parent, and then all includes
  abbrev with_parent : List (List Path) → Going (List Path)
  with_parent done members turns =
      behind index run members done (drop (length done) (includes_at index run.path)) turns finish

  -- without a parent the includes come first
  pub no_parent : opened.parent ≡ None → run.parent ≡ [] → run.includes ≡ [] →
      ancestors_of index profile run_limits run.file run.path opened run.turns finish ≡ goes_on index run
  no_parent none parent includes = ap whole none
      ∙ (ap (λ done. with_parent done [] run.turns) (sym includes)
      ∙ ap (λ ps. with_parent run.includes ps run.turns) (sym parent))

  -- with one it comes first
  pub parent_first : (mention : Mention) → opened.parent ≡ Some mention → run.includes ≡ [] →
      ancestors_of index profile run_limits run.file run.path opened run.turns finish
      ≡ (looked_up index profile run_limits run.file mention >>= judged index run.file role.Parent) run.turns
      (with_members index run role.Parent)
  parent_first mention some includes = ap whole some
      ∙ ap (λ done. (looked_up index profile run_limits run.file mention >>= judged index run.file role.Parent)
      run.turns (with_parent done)) (sym includes)
