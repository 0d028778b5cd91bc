-- The texts of answers (RFC 9112, 4; RFC 9110, 8.3, 8.6, 10.2.1 and 11.6.1).
use Rattle.std.specs.Prelude.{ℕ, List, [], ◌++◌, length, Bool, true, ◌||◌, ◌==◌, if◌then◌else◌, codes, decimal}
use Rattle.http_link.specs.declared.request.RequestKind.{RequestKind}
use Rattle.http_link.specs.declared.request.RequestKind.TheVariants.{Ilp, Admin}

-- a line with its end
abbrev pub line : List ℕ → List ℕ
line text = text ++ codes "\r\n"

-- the phrase of a status (RFC 9110, 15)
abbrev pub reason_of : ℕ → List ℕ
reason_of status =
    if status == 200 then codes "OK"
    else (if status == 400 then codes "Bad Request"
    else (if status == 401 then codes "Unauthorized"
    else (if status == 404 then codes "Not Found"
    else (if status == 405 then codes "Method Not Allowed"
    else (if status == 411 then codes "Length Required"
    else (if status == 413 then codes "Content Too Large" else codes "Service Unavailable"))))))

-- what a service's answers are (RFC 9110, 8.3)
abbrev pub media_type : RequestKind → List ℕ
media_type Ilp = codes "application/octet-stream"
media_type Admin = codes "text/plain"

-- the line that goes with some statuses (RFC 9110, 8.3, 10.2.1 and 11.6.1)
abbrev pub status_line : RequestKind → ℕ → List ℕ
status_line kind status =
    if status == 200 then line (codes "Content-Type: " ++ media_type kind)
    else (if status == 405 then line (codes "Allow: POST")
    else (if status == 401 then line (codes "WWW-Authenticate: Bearer") else []))

-- the line that says that the connection is closed (RFC 9112, 9.6)
abbrev pub close_line : Bool → List ℕ
close_line closes = if closes then line (codes "Connection: close") else []

-- the first line of an answer
abbrev pub first_line : ℕ → List ℕ
first_line status = line (codes "HTTP/1.1 " ++ decimal status ++ codes " " ++ reason_of status)

-- the head of an answer with a line of its own, whose body has that length
abbrev pub head_with : List ℕ → ℕ → ℕ → Bool → List ℕ
head_with own status size closes =
    first_line status
    ++ own
    ++ line (codes "Content-Length: " ++ decimal size)
    ++ close_line closes
    ++ codes "\r\n"

-- the head of an answer to a request of a kind
abbrev pub answer_head : RequestKind → ℕ → ℕ → Bool → List ℕ
answer_head kind status size closes = head_with (status_line kind status) status size closes

-- a service's status as the sender gets it: any other than these is 503 (RFC 9110, 15.6.4)
abbrev pub status_told : ℕ → ℕ
status_told status = if (status == 200) || (status == 400) || (status == 401) then status else 503

-- the body of an answer; only 200 has one
abbrev pub told_body : ℕ → List ℕ → List ℕ
told_body status body = if status == 200 then body else []

-- the answer with a service's status, and its bytes if that is 200
abbrev pub answer_text : RequestKind → ℕ → List ℕ → Bool → List ℕ
answer_text kind status body closes =
    answer_head kind (status_told status) (length (told_body status body)) closes ++ told_body status body

-- the answer that refuses a head, after which the connection is closed
abbrev pub refusal_text : ℕ → List ℕ
refusal_text status = answer_head Ilp status 0 true

-- the interim answer for which a client waits (RFC 9110, 15.2.1)
abbrev pub continue_text : Bool → List ℕ
continue_text waits = if waits then codes "HTTP/1.1 100 Continue\r\n\r\n" else []
