-- How long responses are.
use Rattle.std.proofs.Common.{◌≡◌, ◌≤◌, ℕ, Bool, List, ◌++◌, length, arith, length-append, Option}
use Rattle.ruby_types.specs.declared.request.Reply.{Reply}
use Rattle.http_front_response.specs.Response.{response_bytes}

-- A response has a byte at least, so a connection that was answered has something written to it.
pub response_has_bytes : (reply : Reply) (generation : Option ℕ) (close head_only : Bool)
    → 1 ≤ length (response_bytes reply generation close head_only)
response_has_bytes reply generation close head_only = omega arith
