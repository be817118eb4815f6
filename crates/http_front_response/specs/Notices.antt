-- What is answered in place of an application's reply: one status and one text for each cause.
use Rattle.std.specs.Prelude.{ℕ, List, ◌++◌, codes}
use Rattle.std.specs.Fmt.{decimal}
use Rattle.ruby_types.specs.declared.request.Reply.{Reply}
use Rattle.http_front_response.specs.declared.notice.Notice.{Notice}
use Rattle.http_front_response.specs.declared.notice.Notice.TheVariants.{FilesUnread, Application, GenerationsFull}
use Rattle.http_front_response.specs.declared.notice.Notice.TheVariants.{KeptBytesFull, RequestsFull, RepliesFull}
use Rattle.http_front_response.specs.declared.notice.Notice.TheVariants.{Method, Body, Target, BadRequest}
use Rattle.http_front_response.specs.declared.notice.Notice.TheVariants.{HeadTooLong, TooManyLines}

-- 4xx where the request is at fault, 500 where the application is, 503 where the server is full.
abbrev pub notice_status : Notice → ℕ
notice_status FilesUnread = 500
notice_status (Application text) = 500
notice_status (GenerationsFull number) = 503
notice_status (KeptBytesFull number) = 503
notice_status (RequestsFull number) = 503
notice_status (RepliesFull number) = 503
notice_status Method = 405
notice_status Body = 400
notice_status Target = 414
notice_status BadRequest = 400
notice_status HeadTooLong = 431
notice_status TooManyLines = 431

-- `limit: requests 100000`
abbrev pub limit_text : (name : List ℕ) → (number : ℕ) → List ℕ
limit_text name number = codes "limit: " ++ name ++ codes " " ++ decimal number

-- the text that tells the cause
abbrev pub notice_text : Notice → List ℕ
notice_text FilesUnread = codes "the application files could not be read"
notice_text (Application text) = text
notice_text (GenerationsFull number) = limit_text (codes "generations") number
notice_text (KeptBytesFull number) = limit_text (codes "kept bytes") number
notice_text (RequestsFull number) = limit_text (codes "requests") number
notice_text (RepliesFull number) = limit_text (codes "replies") number
notice_text Method = codes "method not allowed"
notice_text Body = codes "body not allowed"
notice_text Target = codes "target too long"
notice_text BadRequest = codes "bad request"
notice_text HeadTooLong = codes "head too long"
notice_text TooManyLines = codes "too many header lines"

-- the reply that tells it
abbrev pub notice_reply : Notice → Reply
notice_reply notice = record { status = notice_status notice; body = notice_text notice }
