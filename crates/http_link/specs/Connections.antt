-- Requests of a connection, one after another, on the bytes that come.
use Rattle.std.specs.Prelude.{◌≡◌, ◌<◌, ◌⊎◌, ℕ, List, [], ◌∷◌, ◌++◌, length, Bool, true, false, Option, Result, Ok, Err}
use Rattle.std.specs.Io.KnownBytes.{Consumes, IsAtEnd}
use Rattle.httparse.specs.Grammar.{RequestHead}
use Rattle.http_link.specs.declared.request.RequestKind.{RequestKind}
use Rattle.http_link.specs.declared.bodies.BodyFault.{BodyFault}
use Rattle.http_link.specs.declared.serve.Served.{Served}
use Rattle.http_link.specs.declared.serve.Served.TheVariants.{Closed, Ended, Kept}
use Rattle.http_link.specs.Bodies.{IsBody, bad, cut, whole}
use Rattle.http_link.specs.Heads.{BeginsWith, head_of}
use Rattle.http_link.specs.Requests.{Wanted, closes, wanted_of}
use Rattle.http_link.specs.Serving.{Asked, Traces, IsServed, WritesNothingOr400, asking}

-- ---- one request

-- bytes begin with a head within the limits, which was served
pub record HeadServed (tenant_of : RequestKind → List ℕ → Option ℕ) (bytes : List ℕ) (traces : Traces) (served : Served) : Type 0 where
  pub head : RequestHead
  pub rest : List ℕ
  pub begins : BeginsWith bytes head rest
  pub is_served : IsServed (wanted_of tenant_of (head_of head)) (head_of head) rest traces served

-- bytes begin with none, and were turned away
pub record TurnedAway (bytes : List ℕ) (traces : Traces) (served : Served) : Type 0 where
  pub none : (head : RequestHead) (rest : List ℕ) → BeginsWith bytes head rest → ⊥
  pub unasked : traces.Unasked
  pub written : WritesNothingOr400 traces.Writes served

-- More bytes came on a connection after those that were held, and the request at the front of all of them was served.
-- If that request isn't whole, no more bytes are left.
pub record ServesNext (tenant_of : RequestKind → List ℕ → Option ℕ) (had : List ℕ) (old new : Option (List ℕ)) (traces : Traces) (served : Served) : Type 0 where
  pub came : List ℕ
  pub taken : Consumes old new came
  pub so : HeadServed tenant_of (had ++ came) traces served ⊎ TurnedAway (had ++ came) traces served
  pub ended : served ≡ Ended → IsAtEnd new

-- ---- what there is before anything is read

-- the head is accepted, and the body after it is cut short
abbrev pub IsCutBehind : Result Wanted ℕ → List ℕ → Type 0
IsCutBehind (Err status) rest = ⊥
IsCutBehind (Ok wanted) rest = IsBody wanted.framing rest cut

-- bytes are too few for a request: no head within the limits begins them, or one whose body they cut
abbrev pub AreTooFew : (RequestKind → List ℕ → Option ℕ) → List ℕ → Type 0
AreTooFew tenant_of bytes =
    ((head : RequestHead) (rest : List ℕ) → BeginsWith bytes head rest → ⊥)
    ⊎ ((head : RequestHead) × (rest : List ℕ) × BeginsWith bytes head rest
    × IsCutBehind (wanted_of tenant_of (head_of head)) rest)

-- ---- questions

-- Bytes begin with a whole request that is accepted: it asks this, and `left` follows it. It may be the last one of
-- its connection.
pub record IsAskedBy (tenant_of : RequestKind → List ℕ → Option ℕ) (bytes : List ℕ) (asked : Asked) (left : List ℕ) (last : Bool) : Type 0 where
  pub head : RequestHead
  pub rest : List ℕ
  pub begins : BeginsWith bytes head rest
  pub wanted : Wanted
  pub wants : wanted_of tenant_of (head_of head) ≡ Ok wanted
  pub body : List ℕ
  pub frames : IsBody wanted.framing rest (whole body left)
  pub asks : asked ≡ asking wanted body asked.status
  pub is_last : last ≡ closes (head_of head)

-- the request at the front of the bytes was asked, after more of them had come
pub record AsksIt (tenant_of : RequestKind → List ℕ → Option ℕ) (had : List ℕ) (old new : Option (List ℕ)) (Asks : Asked → Type 0) : Type 0 where
  pub came : List ℕ
  pub taken : Consumes old new came
  pub asked : Asked
  pub left : List ℕ
  pub last : Bool
  pub by : IsAskedBy tenant_of (had ++ came) asked left last
  pub asks : Asks asked

-- at most that
abbrev pub AsksNext : (tenant_of : RequestKind → List ℕ → Option ℕ) → (had : List ℕ) → (old new : Option (List ℕ)) → Type 0 → (Asked → Type 0) → Type 0
AsksNext tenant_of had old new Unasked Asks = Unasked ⊎ AsksIt tenant_of had old new Asks

-- The questions, the latest first, are those of the requests at the front of a connection's bytes. Each request
-- follows the one before it, none is passed over, and none follows the last one. `left` follows the latest.
abbrev pub AreAskedBy : (tenant_of : RequestKind → List ℕ → Option ℕ) → (bytes : List ℕ) → List Asked → (left : List ℕ) → (last : Bool) → Type 0
AreAskedBy tenant_of bytes [] left last = (left ≡ bytes) × (last ≡ false)
AreAskedBy tenant_of bytes (asked ∷ earlier) left last =
    (before : List ℕ) × AreAskedBy tenant_of bytes earlier before false × IsAskedBy tenant_of before asked left last

-- ---- the end

-- a head is refused, or the body after it is
abbrev pub IsRequestRefused : Result Wanted ℕ → List ℕ → Type 0
IsRequestRefused (Err status) rest = Unit {0}
IsRequestRefused (Ok wanted) rest = (fault : BodyFault) × IsBody wanted.framing rest (bad fault)

-- what bytes begin with is no head within the limits, or one that is refused, or whose body is
abbrev pub IsTurnedAway : (RequestKind → List ℕ → Option ℕ) → List ℕ → Type 0
IsTurnedAway tenant_of bytes =
    ((head : RequestHead) (rest : List ℕ) → BeginsWith bytes head rest → ⊥)
    ⊎ ((head : RequestHead) × (rest : List ℕ) × BeginsWith bytes head rest
    × IsRequestRefused (wanted_of tenant_of (head_of head)) rest)

-- How a connection with these bytes left ended: no more bytes came; or its last request closed it, or the next one was
-- turned away.
abbrev pub IsConnectionOver : (RequestKind → List ℕ → Option ℕ) → Served → (left : List ℕ) → (last : Bool) → Option (List ℕ) → Type 0
IsConnectionOver tenant_of Ended left last known = IsAtEnd known
IsConnectionOver tenant_of Closed left last known = (last ≡ true) ⊎ IsTurnedAway tenant_of left
IsConnectionOver tenant_of Kept left last known = ⊥

-- ---- waiting

-- Bytes wait, or none do and no more are left; what has come follows what was held.
pub record Awaits (had : List ℕ) (old new : Option (List ℕ)) (has : List ℕ) (more : Bool) : Type 0 where
  pub came : List ℕ
  pub grew : has ≡ had ++ came
  pub taken : Consumes old new came
  pub some : more ≡ true → 0 < length has
  pub ended : more ≡ false → (has ≡ []) × IsAtEnd new
