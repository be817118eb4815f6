-- The bytes of a response (RFC 9112, sections 4 to 6; RFC 9110, sections 8.6, 9.3.2, 10.2.1 and 15).
use Rattle.std.specs.Prelude.{◌≡◌, ◌⊎◌, ◌==◌, ℕ, Bool, List, [], ◌∷◌, ◌++◌, length, codes, if◌then◌else◌}
use Rattle.std.specs.Prelude.{Option, Some, None}
use Rattle.std.specs.Fmt.{decimal}
use Rattle.ruby_types.specs.declared.request.Reply.{Reply}

-- The statuses that responses have.
abbrev pub HasReason : ℕ → Type 0
HasReason status =
    (status ≡ 200) ⊎ (status ≡ 400) ⊎ (status ≡ 404) ⊎ (status ≡ 405) ⊎ (status ≡ 414) ⊎ (status ≡ 431)
    ⊎ (status ≡ 500) ⊎ (status ≡ 503)

-- The phrase behind the status (RFC 9110, section 15; RFC 6585, section 5, for 431).
abbrev pub reason_of : ℕ → List ℕ
reason_of status =
    if status == 200 then codes "OK"
    else (if status == 400 then codes "Bad Request"
    else (if status == 404 then codes "Not Found"
    else (if status == 405 then codes "Method Not Allowed"
    else (if status == 414 then codes "URI Too Long"
    else (if status == 431 then codes "Request Header Fields Too Large"
    else (if status == 500 then codes "Internal Server Error"
    else codes "Service Unavailable"))))))

-- a line, ended by CR LF
abbrev pub line : List ℕ → List ℕ
line text = text ++ (13 ∷ 10 ∷ [])

-- The lines that every response has. The length is that of the body, also where the body is left out.
abbrev pub first_lines : (status : ℕ) → (reason : List ℕ) → (length : ℕ) → List ℕ
first_lines status reason length =
    line (codes "HTTP/1.1 " ++ decimal status ++ codes " " ++ reason)
    ++ line (codes "content-type: text/plain; charset=utf-8")
    ++ line (codes "content-length: " ++ decimal length)

-- The number of the generation, where the response is of one. This line is the project's own.
abbrev pub generation_line : Option ℕ → List ℕ
generation_line None = []
generation_line (Some generation) = line (codes "x-generation: " ++ decimal generation)

-- The methods that are served, where the request had another one (RFC 9110, section 15.5.6, asks for the line).
abbrev pub allow_line : (status : ℕ) → List ℕ
allow_line status = if status == 405 then line (codes "allow: GET, HEAD") else []

-- That the connection closes behind the response (RFC 9112, section 9.6).
abbrev pub close_line : (close : Bool) → List ℕ
close_line close = if close then line (codes "connection: close") else []

-- The status line, the header lines and the empty line.
abbrev pub head_bytes : Reply → (generation : Option ℕ) → (close : Bool) → List ℕ
head_bytes reply generation close =
    first_lines reply.status (reason_of reply.status) (length reply.body)
    ++ generation_line generation
    ++ allow_line reply.status
    ++ close_line close
    ++ line []

-- The body, which the response to a HEAD lacks.
abbrev pub sent_body : Reply → (head_only : Bool) → List ℕ
sent_body reply head_only = if head_only then [] else reply.body

-- The head and the body.
--
-- The reply 200 `hi` of generation 1 on a connection that stays open has the lines `HTTP/1.1 200 OK`,
-- `content-type: text/plain; charset=utf-8`, `content-length: 2`, `x-generation: 1`, an empty line, and then `hi`.
abbrev pub response_bytes : Reply → (generation : Option ℕ) → (close head_only : Bool) → List ℕ
response_bytes reply generation close head_only = head_bytes reply generation close ++ sent_body reply head_only
