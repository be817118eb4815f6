-- A request that goes on in order makes the entries of its conduct.
use Rattle.std.proofs.Common.{◌≡◌, ◌⊎◌, List, [], ◌∷◌, ◌++◌, refl, sym, ap, ◌∙◌, subst, inl, inr}
use Rattle.std.specs.Prelude.{Contains}
use Rattle.std.proofs.lemmas.List.{append_assoc}
use Rattle.by_need.specs.Asking.{Asking, Gives, Ask}
use Rattle.system_events.specs.Facts.{Facts}
use Rattle.system_events.specs.declared.event.Cause.{Cause}
use Rattle.system_events.specs.declared.event.Want.TheVariants.{Unload}
use Rattle.system_events.specs.declared.event.Kept.{Kept}
use Rattle.system_events.specs.declared.event.Kept.TheVariants as kept
use Rattle.request_actor.specs.Talks.{Talks, AreOf}
use Rattle.request_actor.specs.Order.{Goes, GoesOn, Runs, AfterCheck, AfterRelease, AfterLook, AfterLoad}
use Rattle.request_actor.specs.Answers.{IsOnWay}
use Rattle.request_actor.specs.declared.actor.After.{After}
use Rattle.request_actor.specs.declared.actor.After.TheVariants as after
use Rattle.request_actor.specs.declared.actor.Stage.{Stage}
use Rattle.request_actor.specs.declared.actor.Stage.TheVariants as stage
use Rattle.request_actor.specs.declared.op.Op.{Op}
use Rattle.request_actor.specs.declared.op.Op.TheVariants as op
use Rattle.request_actor.specs.declared.op.Answered.{Answered}
use Rattle.request_actor.specs.declared.op.Answered.TheVariants as answer
use Rattle.request_actor.proofs.Right.{keeps_right, is_asked}
use Rattle.request_laws.specs.Conduct.{Opens, Closes, free, resumed, MayReload, IsUnload, IsLoad, AreLoads}
use Rattle.request_laws.specs.Conduct.{no_loads, loads}
use Rattle.request_laws.specs.Conduct.{IsBody, served, refused, IsConduct}
use Rattle.request_laws.specs.Making.{Makes, Passes, at_end, goes_on}

-- WHAT FOLLOWS AT EACH STAGE

module _ {M T V P Q R F : Type 0} (asked : List T) (q : Q) where
  -- an unload section or none, the body, Unshare
  record Tail (entries : List (Kept M T V P Q R F)) : Type 0 where
    unload : List (Kept M T V P Q R F)
    body : List (Kept M T V P Q R F)
    is : entries ≡ unload ++ (body ++ kept.Unshare ∷ [])
    unloads : (unload ≡ []) ⊎ IsUnload unload
    is_body : IsBody asked q body

  -- the body, Unshare
  record Body (entries : List (Kept M T V P Q R F)) : Type 0 where
    body : List (Kept M T V P Q R F)
    is : entries ≡ body ++ kept.Unshare ∷ []
    is_body : IsBody asked q body

  -- a Resume or none, the body, Unshare
  record Waited (entries : List (Kept M T V P Q R F)) : Type 0 where
    waited : List (Kept M T V P Q R F)
    body : List (Kept M T V P Q R F)
    is : entries ≡ waited ++ (body ++ kept.Unshare ∷ [])
    waits : Closes (kept.Release ∷ waited)
    is_body : IsBody asked q body

  -- the close of an unload section, the body, Unshare
  record Closing (entries : List (Kept M T V P Q R F)) : Type 0 where
    closing : List (Kept M T V P Q R F)
    body : List (Kept M T V P Q R F)
    is : entries ≡ closing ++ (body ++ kept.Unshare ∷ [])
    closes : Closes closing
    is_body : IsBody asked q body

  -- a Reload or none, the close of the section, the body, Unshare
  record Reloading (entries : List (Kept M T V P Q R F)) : Type 0 where
    reload : List (Kept M T V P Q R F)
    closing : List (Kept M T V P Q R F)
    body : List (Kept M T V P Q R F)
    is : entries ≡ reload ++ (closing ++ (body ++ kept.Unshare ∷ []))
    may_reload : MayReload reload
    closes : Closes closing
    is_body : IsBody asked q body

  -- load sections, End, Unshare
  record Serving (entries : List (Kept M T V P Q R F)) : Type 0 where
    sections : List (Kept M T V P Q R F)
    reply : R
    is : entries ≡ sections ++ (kept.End reply ∷ kept.Unshare ∷ [])
    are : AreLoads asked sections

  -- what follows at each stage
  abbrev Spelled : {W : Type 0} → Stage Q T W (Cause M T V P Q R F) → List (Kept M T V P Q R F) → Type 0
  Spelled (stage.Fresh request) entries = IsConduct asked q entries
  Spelled (stage.Shares request) entries = Tail entries
  Spelled (stage.Checks request) entries = Tail entries
  Spelled (stage.Takes request) entries = Reloading entries
  Spelled (stage.Reloads request) entries = Closing entries
  Spelled (stage.Releases next) entries = Waited entries
  Spelled (stage.Resumes next) entries = Body entries
  Spelled (stage.Begins request) entries = Serving entries
  Spelled (stage.Looks task waiting) entries = Serving entries
  Spelled (stage.Loads task waiting) entries = Serving entries
  Spelled stage.Ends entries = entries ≡ kept.Unshare ∷ []
  Spelled stage.Refuses entries = entries ≡ kept.Unshare ∷ []
  Spelled stage.Unshares entries = entries ≡ []
  Spelled stage.Over entries = entries ≡ []

-- FROM EACH STAGE TO THE NEXT

module _ {M T V P Q R F G W E : Type 0} (talks : Talks T V P Q R E G W) (asks : List T) (q : Q) where
  -- what follows at the stage that comes next
  follows : (new next : Stage Q T W (Cause M T V P Q R F)) (more : List (Kept M T V P Q R F)) → new ≡ next →
      Spelled asks q new more → Spelled asks q next more
  follows new next more is spelled =
      subst (λ (s : Stage Q T W (Cause M T V P Q R F)). Spelled asks q s more) is spelled

  -- what is made by the operation that is asked for
  made_by : (asked told : Op M T V P Q R F) (made : List (Kept M T V P Q R F)) → asked ≡ told → Makes q asked made →
      Makes q told made
  made_by asked told made is makes = subst (λ (o : Op M T V P Q R F). Makes q o made) is makes

  -- a request that begins is served
  body_served : (made more : List (Kept M T V P Q R F)) → made ≡ kept.Begin q ∷ [] → Serving asks q more →
      Body asks q (made ++ more)
  body_served made more is serving = record {
    body = kept.Begin q ∷ (serving.sections ++ kept.End serving.reply ∷ []);
    is = ap (λ m. m ++ more) is ∙ ap (λ m. kept.Begin q ∷ m) (serving.is
        ∙ sym (append_assoc serving.sections (kept.End serving.reply ∷ []) (kept.Unshare ∷ [])));
    is_body = served serving.sections serving.reply serving.are;
  }

  -- a request that is refused makes that alone
  body_refused : (cause : Cause M T V P Q R F) (made more : List (Kept M T V P Q R F)) →
      made ≡ kept.Refuse cause ∷ [] → more ≡ kept.Unshare ∷ [] → Body asks q (made ++ more)
  body_refused cause made more is then = record {
    body = kept.Refuse cause ∷ [];
    is = ap (λ m. m ++ more) is ∙ ap (λ m. kept.Refuse cause ∷ m) then;
    is_body = refused cause;
  }

  -- behind an unload section
  section_spells : (next : After Q (Cause M T V P Q R F)) (asked : Op M T V P Q R F)
      (new : Stage Q T W (Cause M T V P Q R F)) (made more : List (Kept M T V P Q R F)) → GoesOn next asked new →
      Makes q asked made → Spelled asks q new more → Body asks q (made ++ more)
  section_spells (after.Begins request) asked new made more goes makes spelled =
      body_served made more (made_by asked op.Begin made goes.0 makes)
      (follows new (stage.Begins request) more goes.1 spelled)
  section_spells (after.Refuses cause) asked new made more goes makes spelled =
      body_refused cause made more (made_by asked (op.Refuse cause) made goes.0 makes)
      (follows new stage.Refuses more goes.1 spelled)

  -- a body alone has no unload section before it
  tail_of_body : (entries : List (Kept M T V P Q R F)) → Body asks q entries → Tail asks q entries
  tail_of_body entries rest = record {
    unload = [];
    body = rest.body;
    is = rest.is;
    unloads = inl refl;
    is_body = rest.is_body;
  }

  -- an unload section and a body
  tail_of_section : (made more : List (Kept M T V P Q R F)) → Opens Unload made → Reloading asks q more →
      Tail asks q (made ++ more)
  tail_of_section made more opens rest = record {
    unload = made ++ (rest.reload ++ rest.closing);
    body = rest.body;
    is = ap (λ m. made ++ m) (rest.is
        ∙ sym (append_assoc rest.reload rest.closing (rest.body ++ kept.Unshare ∷ [])))
        ∙ sym (append_assoc made (rest.reload ++ rest.closing) (rest.body ++ kept.Unshare ∷ []));
    unloads = inr (record {
      opening = made;
      reload = rest.reload;
      closing = rest.closing;
      is = refl;
      opens = opens;
      may_reload = rest.may_reload;
      closes = rest.closes;
    });
    is_body = rest.is_body;
  }

  check_spells : (answered : Answered V E (Cause M T V P Q R F)) (request : Q) (asked : Op M T V P Q R F)
      (new : Stage Q T W (Cause M T V P Q R F)) (made more : List (Kept M T V P Q R F)) →
      AfterCheck request answered asked new → Makes q asked made → Spelled asks q new more →
      Tail asks q (made ++ more)
  check_spells answer.Same request asked new made more goes makes spelled =
      tail_of_body (made ++ more) (body_served made more (made_by asked op.Begin made goes.0 makes)
      (follows new (stage.Begins request) more goes.1 spelled))
  check_spells answer.Differs request asked new made more goes makes spelled =
      tail_of_section made more (made_by asked (op.Take Unload) made goes.0 makes)
      (follows new (stage.Takes request) more goes.1 spelled)
  check_spells (answer.Fault cause) request asked new made more goes makes spelled =
      tail_of_body (made ++ more) (body_refused cause made more (made_by asked (op.Refuse cause) made goes.0 makes)
      (follows new stage.Refuses more goes.1 spelled))
  check_spells _ request asked new made more goes makes spelled = absurd goes

  -- the release of an unload section, and what it waits for
  closing_of : (made more : List (Kept M T V P Q R F)) → made ≡ kept.Release ∷ [] → Waited asks q more →
      Closing asks q (made ++ more)
  closing_of made more is rest = record {
    closing = kept.Release ∷ rest.waited;
    body = rest.body;
    is = ap (λ m. m ++ more) is ∙ ap (λ m. kept.Release ∷ m) rest.is;
    closes = rest.waits;
    is_body = rest.is_body;
  }

  release_spells : (answered : Answered V E (Cause M T V P Q R F)) (next : After Q (Cause M T V P Q R F))
      (asked : Op M T V P Q R F) (new : Stage Q T W (Cause M T V P Q R F)) (made more : List (Kept M T V P Q R F)) →
      AfterRelease next answered asked new → Makes q asked made → Spelled asks q new more →
      Waited asks q (made ++ more)
  release_spells answer.Waits next asked new made more goes makes spelled =
      let rest : Body asks q more = follows new (stage.Resumes next) more goes.1 spelled in
      record {
        waited = kept.Resume ∷ [];
        body = rest.body;
        is = ap (λ m. m ++ more) (made_by asked op.Resume made goes.0 makes) ∙ ap (λ m. kept.Resume ∷ m) rest.is;
        waits = resumed;
        is_body = rest.is_body;
      }
  release_spells _ next asked new made more goes makes spelled =
      let rest : Body asks q (made ++ more) = section_spells next asked new made more goes makes spelled in
      record { waited = []; body = rest.body; is = rest.is; waits = free; is_body = rest.is_body }

  -- a look makes nothing
  same_serving : (made more : List (Kept M T V P Q R F)) → made ≡ [] → Serving asks q more →
      Serving asks q (made ++ more)
  same_serving made more is serving =
      subst (λ (m : List (Kept M T V P Q R F)). Serving asks q (m ++ more)) (sym is) serving

  -- an End is the last entry but the Unshare
  serving_of_end : (reply : R) (made more : List (Kept M T V P Q R F)) → made ≡ kept.End reply ∷ [] →
      more ≡ kept.Unshare ∷ [] → Serving asks q (made ++ more)
  serving_of_end reply made more is then = record {
    sections = [];
    reply = reply;
    is = ap (λ m. m ++ more) is ∙ ap (λ m. kept.End reply ∷ m) then;
    are = no_loads;
  }

  -- a load is a section
  serving_of_load : (task : T) (made more : List (Kept M T V P Q R F)) → Contains asks task → IsLoad task made →
      Serving asks q more → Serving asks q (made ++ more)
  serving_of_load task made more wanted is serving = record {
    sections = made ++ serving.sections;
    reply = serving.reply;
    is = ap (λ m. made ++ m) serving.is
        ∙ sym (append_assoc made serving.sections (kept.End serving.reply ∷ kept.Unshare ∷ []));
    are = loads task made serving.sections wanted is serving.are;
  }

  run_spells : (rest : Asking T V R) (asked : Op M T V P Q R F) (new : Stage Q T W (Cause M T V P Q R F))
      (made more : List (Kept M T V P Q R F)) → Runs talks.branch rest asked new → Makes q asked made →
      Spelled asks q new more → Serving asks q (made ++ more)
  run_spells (Gives reply) asked new made more goes makes spelled =
      serving_of_end reply made more (made_by asked (op.End reply) made goes.0 makes)
      (follows new stage.Ends more goes.1 spelled)
  run_spells (Ask task next) asked new made more goes makes spelled =
      same_serving made more (made_by asked (op.Look task) made goes.0 makes)
      (follows new (stage.Looks task goes.1.0) more goes.1.1.0 spelled)

  look_spells : (answered : Answered V E (Cause M T V P Q R F)) (task : T) (waiting : W) (asked : Op M T V P Q R F)
      (new : Stage Q T W (Cause M T V P Q R F)) (made more : List (Kept M T V P Q R F)) → Contains asks task →
      AfterLook talks task waiting answered asked new → Makes q asked made → Spelled asks q new more →
      Serving asks q (made ++ more)
  look_spells (answer.Found value) task waiting asked new made more wanted goes makes spelled =
      run_spells (talks.branch waiting value) asked new made more goes makes spelled
  look_spells _ task waiting asked new made more wanted goes makes spelled =
      serving_of_load task made more wanted (made_by asked (op.Load task) made goes.0 makes)
      (follows new (stage.Loads task waiting) more goes.1 spelled)

  load_spells : (answered : Answered V E (Cause M T V P Q R F)) (task : T) (waiting : W) (asked : Op M T V P Q R F)
      (new : Stage Q T W (Cause M T V P Q R F)) (made more : List (Kept M T V P Q R F)) →
      AfterLoad talks task waiting answered asked new → Makes q asked made → Spelled asks q new more →
      Serving asks q (made ++ more)
  load_spells (answer.Failed error) task waiting asked new made more goes makes spelled =
      serving_of_end (talks.failed error) made more (made_by asked (op.End (talks.failed error)) made goes.0 makes)
      (follows new stage.Ends more goes.1 spelled)
  load_spells _ task waiting asked new made more goes makes spelled =
      same_serving made more (made_by asked (op.Look task) made goes.0 makes)
      (follows new (stage.Looks task waiting) more goes.1 spelled)

  unshared : (asked : Op M T V P Q R F) (new : Stage Q T W (Cause M T V P Q R F))
      (made more : List (Kept M T V P Q R F)) → asked ≡ op.Unshare → new ≡ stage.Unshares → Makes q asked made →
      Spelled asks q new more → made ++ more ≡ kept.Unshare ∷ []
  unshared asked new made more is goes makes spelled =
      ap (λ m. m ++ more) (made_by asked op.Unshare made is makes)
      ∙ ap (λ m. kept.Unshare ∷ m) (follows new stage.Unshares more goes spelled)

module _ {M T V P Q R F G W E : Type 0} (f : Facts T V P Q R F) (talks : Talks T V P Q R E G W) (p : P) (q : Q) where
  -- a step of the order, with what it makes, leads from what follows to what follows before it
  step_spells : (found : List T) (old : Stage Q T W (Cause M T V P Q R F))
      (answered : Answered V E (Cause M T V P Q R F)) (asked : Op M T V P Q R F)
      (new : Stage Q T W (Cause M T V P Q R F)) (made more : List (Kept M T V P Q R F)) →
      IsOnWay f talks p q found old → Goes talks p old answered asked new → Makes q asked made →
      Spelled (f.request_asked p q) q new more → Spelled (f.request_asked p q) q old (made ++ more)
  step_spells found (stage.Fresh request) answered asked new made more way goes makes spelled =
      let tail : Tail (f.request_asked p q) q more =
      follows talks (f.request_asked p q) q new (stage.Shares request) more goes.1 spelled in
      record {
        unload = tail.unload;
        body = tail.body;
        is = ap (λ m. m ++ more) (made_by talks (f.request_asked p q) q asked op.Share made goes.0 makes)
            ∙ ap (λ m. kept.Share ∷ m) tail.is;
        unloads = tail.unloads;
        is_body = tail.is_body;
      }
  step_spells found (stage.Shares request) answered asked new made more way goes makes spelled =
      let tail : Tail (f.request_asked p q) q more =
      follows talks (f.request_asked p q) q new (stage.Checks request) more goes.1 spelled in
      let none : made ≡ [] = made_by talks (f.request_asked p q) q asked op.Check made goes.0 makes in
      subst (λ (m : List (Kept M T V P Q R F)). Tail (f.request_asked p q) q (m ++ more)) (sym none) tail
  step_spells found (stage.Checks request) answered asked new made more way goes makes spelled =
      check_spells talks (f.request_asked p q) q answered request asked new made more goes makes spelled
  step_spells found (stage.Takes request) answered asked new made more way goes makes spelled =
      let rest : Closing (f.request_asked p q) q more =
      follows talks (f.request_asked p q) q new (stage.Reloads request) more goes.1 spelled in
      record {
        reload = made;
        closing = rest.closing;
        body = rest.body;
        is = ap (λ m. made ++ m) rest.is;
        may_reload = made_by talks (f.request_asked p q) q asked op.Reload made goes.0 makes;
        closes = rest.closes;
        is_body = rest.is_body;
      }
  step_spells found (stage.Reloads request) answered asked new made more way goes makes spelled =
      closing_of talks (f.request_asked p q) q made more
      (made_by talks (f.request_asked p q) q asked op.Release made goes.0 makes)
      (follows talks (f.request_asked p q) q new _ more goes.1 spelled)
  step_spells found (stage.Releases next) answered asked new made more way goes makes spelled =
      release_spells talks (f.request_asked p q) q answered next asked new made more goes makes spelled
  step_spells found (stage.Resumes next) answered asked new made more way goes makes spelled =
      section_spells talks (f.request_asked p q) q next asked new made more goes makes spelled
  step_spells found (stage.Begins request) answered asked new made more way goes makes spelled =
      run_spells talks (f.request_asked p q) q (talks.whole p request) asked new made more goes makes spelled
  step_spells found (stage.Looks task waiting) answered asked new made more way goes makes spelled =
      look_spells talks (f.request_asked p q) q answered task waiting asked new made more
      (is_asked f talks p q found task (talks.branch waiting) way) goes makes spelled
  step_spells found (stage.Loads task waiting) answered asked new made more way goes makes spelled =
      load_spells talks (f.request_asked p q) q answered task waiting asked new made more goes makes spelled
  step_spells found stage.Ends answered asked new made more way goes makes spelled =
      unshared talks (f.request_asked p q) q asked new made more goes.0 goes.1 makes spelled
  step_spells found stage.Refuses answered asked new made more way goes makes spelled =
      unshared talks (f.request_asked p q) q asked new made more goes.0 goes.1 makes spelled
  step_spells found stage.Unshares answered asked new made more way goes makes spelled =
      ap (λ m. m ++ more) (made_by talks (f.request_asked p q) q asked op.Finished made goes.0 makes)
      ∙ follows talks (f.request_asked p q) q new stage.Over more goes.1 spelled
  step_spells found stage.Over answered asked new made more way goes makes spelled = absurd goes

  -- whoever goes on in order to the end makes what follows at its stage
  spells : (laws : AreOf f talks) {found : List T} {old : Stage Q T W (Cause M T V P Q R F)}
      {entries : List (Kept M T V P Q R F)} → Passes f talks p q found old entries →
      IsOnWay f talks p q found old → Spelled (f.request_asked p q) q old entries
  spells laws (at_end found) way = refl
  spells laws (goes_on found old new answered asked made more fits right goes makes rest) way =
      let kept_way = (keeps_right f talks p laws old answered asked new goes q found way right).0 in
      step_spells found old answered asked new made more way goes makes (spells laws rest kept_way)

  -- a request that goes on in order, with right answers, makes the entries of its conduct
  pub conducts : (laws : AreOf f talks) (entries : List (Kept M T V P Q R F)) →
      Passes f talks p q [] (stage.Fresh q) entries → IsConduct (f.request_asked p q) q entries
  conducts laws entries passes = spells laws passes (refl, refl)
