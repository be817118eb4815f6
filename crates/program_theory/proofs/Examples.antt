-- Blames and replies as they are told.
use Rattle.std.proofs.Common.{◌≡◌, [], ◌∷◌, refl, codes}
use Rattle.by_need.specs.Asking.{Done, Otherwise}
use Rattle.by_need.specs.Blame.{Circle, Fault}
use Rattle.ruby_types.specs.declared.request.ErrorClass.TheVariants as class
use Rattle.ruby_types.specs.declared.request.RubyError.{RubyError}
use Rattle.ruby_types.specs.declared.request.Request.{Request}
use Rattle.ruby_types.specs.declared.request.Task.TheVariants as task
use Rattle.ruby_types.specs.declared.value.Value.TheVariants.{Nil}
use Rattle.ruby_builtin_base.specs.declared.called.Called.TheVariants as called
use Rattle.ruby_builtin_base.specs.Printed.{error_text}
use Rattle.ruby_runs.specs.declared.NoReply.TheVariants.{NoController, NoAction}
use Rattle.program_theory.specs.Applications.{Application}
use Rattle.program_theory.specs.Replies.{blame_error, reply_by, replied}

-- an application without files and built-in methods, whose values are all told as `v`
abbrev app : Application
app = record {
  files = [];
  controller = λ segments. segments;
  rows = record { called = λ left on name args. called.NoMethod; to_s = λ value. codes "v"; inspect = λ value. [] };
  limits = record { task_turns = 0; request_turns = 0; frames = 0 };
}

abbrev request : Request
request = record { controller = codes "posts" ∷ []; action = codes "show"; params = [] }

abbrev unrouted : Request
unrouted = record { controller = []; action = []; params = [] }

-- A file, a constant and the ancestors of a class that ask for one another.
a_ring : error_text (blame_error (Circle (task.Const (codes "A" ∷ codes "B" ∷ []) ∷ task.Ancestors (codes "C" ∷ [])
    ∷ task.File (codes "x.rb") ∷ []))) ≡ codes "LoadError: circular load: A::B -> ancestors of C -> x.rb"
a_ring = refl

abbrev raised : RubyError
raised = record { class = class.Runtime; message = codes "no"; path = codes "a.rb" }

a_fault : blame_error (Fault raised) ≡ raised
a_fault = refl

a_value : reply_by app request (Done Nil) ≡ replied 200 (codes "v")
a_value = refl

no_controller : reply_by app request (Otherwise (NoController (codes "PostsController" ∷ [])))
    ≡ replied 404 (codes "no controller PostsController")
no_controller = refl

no_action : reply_by app request (Otherwise (NoAction (codes "Admin" ∷ codes "PostsController" ∷ [])))
    ≡ replied 404 (codes "no action show in Admin::PostsController")
no_action = refl

no_route : reply_by app unrouted (Otherwise (NoController [])) ≡ replied 404 (codes "no route")
no_route = refl
