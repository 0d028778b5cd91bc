-- What the head of a request asks for, or the status that refuses it: checks in the order in which they are made.
use Rattle.std.specs.Prelude.{ℕ, List, length, take, drop, slice_index, Bool, ◌&&◌, ◌||◌, ◌==◌, nat_lt, if◌then◌else◌}
use Rattle.std.specs.Prelude.{codes}
use Rattle.std.specs.Prelude.{Option, Some, None, Result, Ok, Err}
use Rattle.std.specs.List.{list_any}
use Rattle.std.specs.Str.{bytes_eq, str_eq_ignore_ascii_case}
use Rattle.common_types.specs.ResultChain.{◌>>=◌}
use Rattle.common_types.specs.Token.{is_token}
use Rattle.http_link.specs.declared.bodies.Framing.{Framing}
use Rattle.http_link.specs.declared.bodies.Framing.TheVariants.{Chunked, Sized}
use Rattle.http_link.specs.declared.request.RequestKind.{RequestKind}
use Rattle.http_link.specs.declared.request.RequestKind.TheVariants.{Ilp, Admin}
use Rattle.common_types.specs.Numerals.{value_of}
use Rattle.http_link.specs.Fields.{Line, values_of, Occurrence, missing, once, repeated, occurrence, has_element, is_chunked}
use Rattle.http_link.specs.Fields.{is_length, skip_spaces}
use Rattle.http_link.specs.Heads.{Head}
use Rattle.http_link.specs.Limits.{max_body, max_command}

-- the most bytes of a request's body
abbrev pub body_limit : RequestKind → ℕ
body_limit Ilp = max_body
body_limit Admin = max_command

-- what a head asks for that nothing refuses: whose tenant it is, with which token, and how its body is framed
pub record Wanted : Type 0 where
  pub kind : RequestKind
  pub tenant : ℕ
  pub token : List ℕ
  pub framing : Framing

-- a value, or what refuses if there is none
abbrev pub or_refused : {A E : Type 0} → E → Option A → Result A E
or_refused refusal (Some value) = Ok value
or_refused refusal None = Err refusal

-- the tenant of a name that takes requests of that kind
abbrev pub door_named : (RequestKind → List ℕ → Option ℕ) → RequestKind → List ℕ → Option (RequestKind × ℕ)
door_named tenant_of kind name = with_kind (tenant_of kind name)
  where
    with_kind : Option ℕ → Option (RequestKind × ℕ)
    with_kind (Some tenant) = Some (kind, tenant)
    with_kind None = None

-- `/ilp/NAME` or `/admin/NAME`, exactly (RFC 9112, 3.2.1)
abbrev pub door_at : (RequestKind → List ℕ → Option ℕ) → List ℕ → Option (RequestKind × ℕ)
door_at tenant_of target =
    if bytes_eq (take 5 target) (codes "/ilp/") then door_named tenant_of Ilp (drop 5 target)
    else (if bytes_eq (take 7 target) (codes "/admin/") then door_named tenant_of Admin (drop 7 target) else None)

-- a length within the limit of its kind (RFC 9110, 15.5.14)
abbrev pub within_limit : RequestKind → ℕ → Result Framing ℕ
within_limit kind size = if nat_lt (body_limit kind) size then Err 413 else Ok (Sized size)

-- a body of a stated length: 400 for a bad length (RFC 9112, 6.3)
abbrev pub sized_in : RequestKind → List ℕ → Result Framing ℕ
sized_in kind text = if is_length text then within_limit kind (value_of text) else Err 400

-- a body in chunks: 400 for any other coding, and in version 1.0 (RFC 9112, 6.1 and 7.1)
abbrev pub coded_in : RequestKind → (minor : ℕ) → List ℕ → Result Framing ℕ
coded_in kind minor coding = if (minor == 1) && is_chunked coding then Ok (Chunked (body_limit kind)) else Err 400

-- How a body is framed, by the lines on its coding and on its length: 411 for neither, 400 for both, and for two of either
-- (RFC 9112, 6.3).
abbrev pub framing_of : RequestKind → (minor : ℕ) → (coded length : Occurrence) → Result Framing ℕ
framing_of kind minor missing missing = Err 411
framing_of kind minor missing (once text) = sized_in kind text
framing_of kind minor missing repeated = Err 400
framing_of kind minor (once coding) missing = coded_in kind minor coding
framing_of kind minor (once coding) (once text) = Err 400
framing_of kind minor (once coding) repeated = Err 400
framing_of kind minor repeated length = Err 400

-- the token of `Bearer TOKEN`, with one space or more between them (RFC 6750, 2.1; RFC 9110, 11.1)
abbrev pub bearer_token : List ℕ → Option (List ℕ)
bearer_token value =
    if str_eq_ignore_ascii_case (take 6 value) (codes "Bearer") && (slice_index value 6 == 32)
    && is_token (skip_spaces (drop 6 value))
    then Some (skip_spaces (drop 6 value)) else None

-- the token of the one line that shows credentials (RFC 9110, 11.6.2)
abbrev pub token_in : Occurrence → Option (List ℕ)
token_in missing = None
token_in (once value) = bearer_token value
token_in repeated = None

-- how often the coding of a body is given (RFC 9112, 6.1)
abbrev pub coding_of : List Line → Occurrence
coding_of lines = occurrence (codes "Transfer-Encoding") lines

-- how the body of a head is framed
abbrev pub framing_in : RequestKind → Head → Result Framing ℕ
framing_in kind head = framing_of kind head.minor (coding_of head.lines) (occurrence (codes "Content-Length") head.lines)

-- what a head asks for, or the status of the first check that refuses it
abbrev pub wanted_of : (RequestKind → List ℕ → Option ℕ) → Head → Result Wanted ℕ
wanted_of tenant_of head = do
  posted ← if bytes_eq head.method (codes "POST") then Ok head.method else Err 405
  place ← or_refused 404 (door_at tenant_of head.target)
  framing ← framing_in place.0 head
  token ← or_refused 401 (token_in (occurrence (codes "Authorization") head.lines))
  Ok (record { kind = place.0; tenant = place.1; token = token; framing = framing })

-- the lines ask for `100 Continue` (RFC 9110, 10.1.1)
abbrev pub expects_continue : List Line → Bool
expects_continue lines = list_any (λ value. str_eq_ignore_ascii_case value (codes "100-continue")) (values_of (codes "Expect") lines)

-- the client waits for `100 Continue` before it sends the body (RFC 9110, 10.1.1)
abbrev pub waits : Head → Bool
waits head = (head.minor == 1) && expects_continue head.lines

-- the lines ask that the connection be closed (RFC 9112, 9.6)
abbrev pub asks_close : List Line → Bool
asks_close lines = list_any (has_element (codes "close")) (values_of (codes "Connection") lines)

-- the connection is closed after the answer (RFC 9112, 9.3 and 9.6)
abbrev pub closes : Head → Bool
closes head = (head.minor == 0) || asks_close head.lines
