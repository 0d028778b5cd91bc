-- What a stream begins with: a head within our limits (RFC 9112, 2.1).
use Rattle.std.specs.Prelude.{◌≤◌, ℕ, List, length, map}
use Rattle.httparse.specs.Grammar.{RequestHead, ReadsRequest, print_request, ResponseHead, ReadsResponse}
use Rattle.httparse.specs.Grammar.{print_response, status_code}
use Rattle.httparse.specs.Spans.{name_and_value}
use Rattle.http_link.specs.Fields.{Line}
use Rattle.http_link.specs.Limits.{max_head, max_lines}

-- the stream is that request's head and then rest
pub record BeginsWith (stream : List ℕ) (head : RequestHead) (rest : List ℕ) : Type 0 where
  pub reads : ReadsRequest stream head rest
  pub short : length (print_request head) ≤ max_head
  pub few : length head.fields ≤ max_lines

-- the stream is that answer's head and then rest
pub record BeginsAnswer (stream : List ℕ) (head : ResponseHead) (rest : List ℕ) : Type 0 where
  pub reads : ReadsResponse stream head rest
  pub short : length (print_response head) ≤ max_head
  pub few : length head.fields ≤ max_lines

-- what a request's head says
pub record Head : Type 0 where
  pub method : List ℕ
  pub target : List ℕ
  pub minor : ℕ
  pub lines : List Line

-- what the head says, by the grammar
abbrev pub head_of : RequestHead → Head
head_of h = record { method = h.method; target = h.target; minor = h.minor; lines = map name_and_value h.fields }

-- what an answer's head says
pub record Reply : Type 0 where
  pub status : ℕ
  pub minor : ℕ
  pub lines : List Line

-- what the head says, by the grammar
abbrev pub reply_of : ResponseHead → Reply
reply_of h = record { status = status_code h; minor = h.minor; lines = map name_and_value h.fields }
