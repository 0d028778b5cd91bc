-- The answers at the host's door, and the seat at which its thread reads the meters.
use Rattle.std.specs.Prelude.{ℕ, zero, suc, ◌≡◌, ◌↔◌, Bool, true, false, List, Option, Some, None, codes}
use Rattle.std.specs.Str.{bytes_eq}
use Rattle.http_link.specs.HostDoor.{HostAsked}
use Rattle.http_link.specs.declared.host_request.HostRequest.{HostRequest}
use Rattle.http_link.specs.declared.host_request.HostRequest.TheVariants.{Health, Metrics, Setup, Stop}
use Rattle.atomic_table.specs.Seated.{TableId}
use Rattle.meters.specs.Seats.{SeatState, count_of, empty_seat}
use Rattle.meters.specs.declared.kind.Kind.{Kind}
use Rattle.one_list.specs.declared.run.Run.{Ghosts}
use Rattle.tenant_core.specs.declared.opening.Opening.{Opening}
use Rattle.service.specs.Metrics.{IsMetricsOf}
use Rattle.service.specs.Presence.{IsPresentText}
use Rattle.service.specs.declared.office.Office.{Office}

-- whether the request needs a token
abbrev pub wants_token : HostRequest → Bool
wants_token Health = false
wants_token Metrics = true
wants_token Setup = true
wants_token Stop = true

-- the text of an answer: a word; the metrics; the tenants as their books were
abbrev pub IsToldOf : {J : Type 0} {r : Ghosts J} → List Opening → Office J r → HostRequest → List ℕ → Type 0
IsToldOf openings office Health text = text ≡ codes "ok\n"
IsToldOf openings office Metrics text = IsMetricsOf openings office.names.items text
IsToldOf openings office Setup text = IsPresentText openings office text
IsToldOf openings office Stop text = IsPresentText openings office text

-- a request was refused exactly if it needs a token and another one was shown (401), and the text of a 200 is of its
-- kind
pub record HasTold {J : Type 0} {r : Ghosts J} (openings : List Opening) (office : Office J r) (token : List ℕ) (asked : HostAsked) (text : List ℕ) : Type 0 where
  pub refused : asked.status ≡ 401 ↔ (wants_token asked.request ≡ true) × (bytes_eq asked.token token ≡ false)
  pub told : asked.status ≡ 200 → IsToldOf openings office asked.request text

-- a plain seat of these meters at which nothing is counted, if there is one
abbrev pub IsIdle : TableId → Option SeatState → Type 0
IsIdle id None = Unit {0}
IsIdle id (Some seat) = (seat ≡ empty_seat id false) × ((tenant : ℕ) (kind : Kind) → count_of tenant kind seat ≡ 0)

-- how many seats that is
abbrev pub seats_in : Option SeatState → ℕ
seats_in None = 0
seats_in (Some seat) = 1

-- what is done beside the workers' threads, if there is anything: one call of `stay`
abbrev pub HasStayed : {A : Type 0} → (A → A → Type 0) → Option A → Option A → Type 0
HasStayed stays None after = after ≡ None
HasStayed {A} stays (Some before) after = (left : A) × (after ≡ Some left) × stays before left

-- so many steps, one after another
abbrev pub RepeatsTimes : {A : Type 0} → (A → A → Type 0) → ℕ → A → A → Type 0
RepeatsTimes Step zero before after = after ≡ before
RepeatsTimes {A} Step (suc n) before after = (between : A) × RepeatsTimes Step n before between × Step between after

-- steps, one after another
pub record Repeats {A : Type 0} (Step : A → A → Type 0) (before after : A) : Type 0 where
  pub times : ℕ
  pub steps : RepeatsTimes Step times before after
