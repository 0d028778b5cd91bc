-- A desk whose seat was lent, and came back as it was.
use Rattle.std.proofs.Common.{◌≡◌, false}
use mathlib.Core.Path.{path_j}
use Rattle.std.proofs.Props.{props}
use Rattle.std.specs.Coded.{codes}
use Rattle.floor_core.specs.Work.{Work}
use Rattle.floor_core.specs.Work.Job.{NoJob}
use Rattle.meters.specs.Seats.{SeatState}
use Rattle.one_list.specs.declared.run.Run.{Ghosts}
use Rattle.service.specs.declared.worker.desk.Desk.{Desk}

plain_prop : (s : SeatState) → IsProp (s.first ≡ false)
plain_prop s = hlevel props

idle_prop : (w : Work) → IsProp (w.job ≡ NoJob)
idle_prop w = hlevel (props, codes)

pub same_desk : {J : Type 0} {r : Ghosts J} (d : Desk J r) (s : SeatState) (plain : s.first ≡ false) (idle : d.slot.job ≡ NoJob) → d.seat ≡ s
    → record { share = d.share; seat = s; slot = d.slot; sent = d.sent; printed = d.printed; told = d.told; periods = d.periods; ticket = d.ticket; plain = plain; idle = idle } ≡ d
same_desk {J} {r} d s plain idle same =
    path_j (λ (s' : SeatState) (p : d.seat ≡ s'). (q : s'.first ≡ false)
    → record { share = d.share; seat = s'; slot = d.slot; sent = d.sent; printed = d.printed; told = d.told; periods = d.periods; ticket = d.ticket; plain = q; idle = idle } ≡ d)
    (λ q i. record {
      share = d.share;
      seat = d.seat;
      slot = d.slot;
      sent = d.sent;
      printed = d.printed;
      told = d.told;
      periods = d.periods;
      ticket = d.ticket;
      plain = plain_prop d.seat q d.plain i;
      idle = idle_prop d.slot idle d.idle i;
    })
    same plain
