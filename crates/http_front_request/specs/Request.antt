-- The request that a target asks for (RFC 9112, section 3.2.1, has its form; the routes are this project's own).
use Rattle.std.specs.Prelude.{◌≡◌, ◌<◌, ◌≤◌, ◌==◌, ◌&&◌, ◌||◌, ℕ, Bool, false, List, [], ◌∷◌, length, map, codes}
use Rattle.std.specs.Prelude.{if◌then◌else◌, Result, Ok, Err}
use Rattle.std.specs.List.{list_all}
use Rattle.std.specs.Char.{is_ascii_lowercase, is_ascii_digit}
use Rattle.form_urlencoded.specs.Form.{split_once}
use Rattle.plain_text.specs.Segments.{segments}
use Rattle.ruby_types.specs.declared.request.Request.{Request}
use Rattle.ruby_types.specs.declared.value.Value.{Value}
use Rattle.ruby_types.specs.declared.value.Value.TheVariants.{Str, Sym}
use Rattle.http_front_request.specs.declared.request.TargetFault.{TargetFault}
use Rattle.http_front_request.specs.declared.request.TargetFault.TheVariants.{TooLong, Memory}
use Rattle.http_front_request.specs.Form.{form_pairs, each_once}

-- The byte between a target's path and its query, `?`.
abbrev pub question_mark : ℕ
question_mark = 63

-- a byte of a route's segment behind its first: a small letter, a digit or `_`
abbrev pub is_segment_byte : ℕ → Bool
is_segment_byte b = is_ascii_lowercase b || is_ascii_digit b || b == 95

-- a segment of a route: `[a-z][a-z0-9_]*`
abbrev pub is_route_segment : List ℕ → Bool
is_route_segment [] = false
is_route_segment (b ∷ bytes) = is_ascii_lowercase b && list_all is_segment_byte bytes

-- the segments of a path `/s1/../sn`; none where it is no such path
abbrev pub route_segments : List (List ℕ) → List (List ℕ)
route_segments [] = []
route_segments (before ∷ segments) =
    if length before == 0 && list_all is_route_segment segments then segments else []

-- the segments before the last one, and that one
abbrev pub ending : (first : List ℕ) → (others : List (List ℕ)) → List (List ℕ) × List ℕ
ending first [] = ([], first)
ending first (next ∷ others) = (first ∷ (ending next others).0, (ending next others).1)

-- The controller's segments and the action: the last segment is the action and the others are the controller, or the
-- only one is the controller and the action is `index`. Without a route the controller has no segment.
abbrev pub routed : List (List ℕ) → List (List ℕ) × List ℕ
routed [] = ([], [])
routed (first ∷ []) = (first ∷ [], codes "index")
routed (first ∷ next ∷ others) = ending first (next ∷ others)

-- the route of a path
abbrev pub route_of : List ℕ → List (List ℕ) × List ℕ
route_of path = routed (route_segments (segments path))

-- `:id` and `"7"`
abbrev pub param : List ℕ × List ℕ → Value × Value
param pair = (Sym pair.0, Str pair.1)

-- the parameters of a query
abbrev pub params_of : List ℕ → List (Value × Value)
params_of query = map param (each_once (form_pairs query))

-- The path is the target up to its first `?`, and the query is what follows that.
--
-- `/admin/posts/show?id=7` asks the controller `admin`, `posts` for `show` with `:id` `"7"`; `/hello` asks `hello` for
-- `index`; `/`, `/Hello` and `/a//b` have no route.
abbrev pub request_of : List ℕ → Request
request_of target =
    record {
      controller = (route_of (split_once question_mark target).0).0;
      action = (route_of (split_once question_mark target).0).1;
      params = params_of (split_once question_mark target).1;
    }

-- the greatest length of a target
abbrev pub longest_target : ℕ
longest_target = 2048

-- A target past the greatest length is refused, with its length, before anything else. Else the request is the
-- target's, or memory ran out.
abbrev pub AnswersTarget : List ℕ → Result Request TargetFault → Type 0
AnswersTarget target (Ok request) = (request ≡ request_of target) × (length target ≤ longest_target)
AnswersTarget target (Err (TooLong n)) = (n ≡ length target) × (longest_target < length target)
AnswersTarget target (Err Memory) = length target ≤ longest_target
