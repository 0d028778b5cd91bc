-- What a service has counted at its end, and what it prints of that.
use Rattle.std.specs.Prelude.{ℕ, ◌≡◌, ◌<◌, ◌-◌, ◌++◌, true, false, Bool, List, [], All, length, map, if◌then◌else◌, Option, is_some, IfSome}
use Rattle.std.specs.List.{sum_by}
use Rattle.std.specs.Option.{option_to_list}
use Rattle.std.specs.Io.KnownBytes.{Appends}
use Rattle.std.specs.declared.marker.Brand.{Brand}
use Rattle.tenant_core.specs.State.{State}
use Rattle.meters.specs.Seats.{TotalsState, count_of, total_of}
use Rattle.meters.specs.declared.kind.Kind as meter
use Rattle.atomic_table.specs.Seated.{TableId}
use Rattle.one_list.specs.declared.run.Run.{Ghosts}
use Rattle.books_shared.specs.Shares.{ShareView}
use Rattle.books_shared.specs.Traced.{HaveListOf}
use Rattle.tenant_core.specs.declared.opening.Opening.{Opening}
use Rattle.admin_text.specs.declared.setup.Setup.{Setup}
use Rattle.service.specs.declared.worker.desk.Desk.{Desk}
use Rattle.service.specs.declared.office.Office.{Office}
use Rattle.service.specs.declared.running.plan.Plan.{Plan}
use Rattle.service.specs.Answering.{HasWorked, IsOfficeOf}
use Rattle.service.specs.Auditing.{HaveEnded, IsAudited}
use Rattle.service.specs.Balances.{balance_lines}
use Rattle.service.specs.Extents.{closes_at_end, desk_count, worker_count}
use Rattle.service.specs.Journal.{in_office}
use Rattle.service.specs.Operating.{HasObeyed}
use Rattle.service.specs.Served.{lines_upto}

-- so many of these shares are the workers'
abbrev pub without_door : (operated : Bool) → ℕ → ℕ
without_door false shares = shares
without_door true shares = shares - 1

-- The desks of so many workers, as their connections left them, and that of who answers operators, if anyone does, as their
-- requests left it. They have these shares, and have counted that in all.
pub record HaveCounted {J : Type 0} {r : Ghosts J} (Gives : ℕ → Type 0) (office : Office J r) (workers : ℕ) (operated : Bool) (shares : List ShareView)
    (counts : ℕ → meter.Kind → ℕ) : Type 0 where
  pub desks : List (Desk J r)
  pub each : length desks ≡ workers
  pub worked : All (HasWorked Gives office) desks
  pub door : Option (Desk J r)
  pub seated : is_some door ≡ operated
  pub obeyed : IfSome door (HasObeyed Gives office)
  pub shares_are : map (λ desk. desk.share) (option_to_list door ++ desks) ≡ shares
  pub sums : (tenant : ℕ) (kind : meter.Kind) → tenant < office.books.tenants
      → counts tenant kind ≡ sum_by (λ desk. count_of tenant kind desk.seat) (option_to_list door ++ desks)

-- whether a service has a door for operators, and a journal on disk
pub record Features : Type 0 where
  pub operators : Bool
  pub journal : Bool

-- A service of a setup, whose run this is, has written its last lines. If the report has balances, they come first.
-- Then comes a line for each tenant, of what the workers and who answers operators have counted. If the report has an
-- audit, what it found comes last. The counts are as the connections that each worker served left them, and the requests of
-- operators, at moments that the clock gave. Commands came with packets only if the plan says so.
--
-- If the last periods are closed, one worker has rolled each tenant. There is one list of all that was done to the
-- tenants' books. Each share has its part of it. It is a run, of some number of workers, from the run's openings to the books at
-- the end.
pub record HasToldCountsIn {J : Type 0} (run : Ghosts J) (Gives : ℕ → Type 0) (setup : Setup) (plan : Plan) (has : Features) (old new : Option (List ℕ)) : Type 0 where
  pub office : Office J run
  pub known : IsOfficeOf setup office
  pub admin : office.admin ≡ plan.admin
  pub journal : is_some office.journal ≡ has.journal
  pub totals : TotalsState
  pub worked : List ShareView
  pub counted : HaveCounted Gives office (worker_count plan.extent.connections has.operators) has.operators worked (λ tenant kind. total_of tenant kind totals)
  pub shares : List ShareView
  pub ended : HaveEnded (in_office Gives office) (closes_at_end plan) (length setup.tenants) worked shares
  pub books : List (State × ℕ)
  pub audit : List ℕ
  pub audited : IsAudited plan.report.audit shares audit
  pub told : Appends old new ((if plan.report.balances then balance_lines office.names.items books else [])
      ++ lines_upto (length setup.tenants) office.names.items totals ++ audit)
  pub one_list : HaveListOf run.size run.openings books shares

-- the run of a service with these openings, whose list has that table: each worker answers only packets that it sent on itself
abbrev pub run_of : TableId → List Opening → (workers : ℕ) → Ghosts Brand
run_of table openings workers = record {
  table = table;
  size = record { tenants = length openings; workers = workers };
  openings = openings;
  own = true;
}

-- A service of a setup has written its last lines, as HasToldCountsIn says, by some run with these openings: the balances, a
-- line of counts for each tenant, and what an audit found. All that the workers and operators did is one list, a run of a
-- floor from the openings to the books at the end.
abbrev pub HasToldCounts : (Gives : ℕ → Type 0) → Setup → List Opening → Plan → Features → (old new : Option (List ℕ)) → Type 0
HasToldCounts Gives setup openings plan has old new =
    (table : TableId) × HasToldCountsIn (run_of table openings (desk_count plan.extent.connections has.operators)) Gives setup plan has old new
