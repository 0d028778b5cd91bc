-- A packet that was carried, after which the tenant's period was looked at, is a question that was answered.
use Rattle.std.proofs.Common.{◌≡◌, ℕ, ◌∙◌, Bool, true, nat_lt, subst, sym}
use Rattle.one_list.specs.declared.run.Run.{Ghosts}
use Rattle.http_link.specs.declared.request.RequestKind.TheVariants.{Ilp}
use Rattle.std.specs.Prelude.{List}
use Rattle.workers.specs.Replies.{http_code}
use Rattle.workers.specs.declared.reply.Status.{Status}
use Rattle.service.specs.Answering.{HasAnswered, WasAskedPacket, WasCarried}
use Rattle.service.specs.Rolling.{IsTidied}
use Rattle.service.specs.declared.worker.desk.Desk.{Desk}
use Rattle.service.specs.declared.office.Office.{Office}

pub packet_answered : {J : Type 0} {r : Ghosts J} {C : Type 0} (gives : C → ℕ → Type 0) (k clock : C) (office : Office J r) (before between after : Desk J r) (tenant : ℕ) (token body : List ℕ) (status : ℕ) (told : Status)
    → k ≡ clock → status ≡ http_code told → nat_lt tenant office.books.tenants ≡ true
    → WasCarried (gives k) office before tenant token body told between → between.told ≡ Ilp
    → IsTidied (gives k) office.roll_at office between tenant after → after.told ≡ between.told
    → HasAnswered (gives clock) office before (record { kind = Ilp; tenant = tenant; token = token; body = body; status = status }) after
packet_answered {J} {r} {C} gives k clock office before between after tenant token body status told same code there carried kind tidied kept =
    subst (λ (at : C). HasAnswered (gives at) office before (record { kind = Ilp; tenant = tenant; token = token; body = body; status = status }) after) same (record {
      told = told;
      code = code;
      kind = kept ∙ kind;
      so = subst (λ (b : Bool). WasAskedPacket (gives k) b office (record { kind = Ilp; tenant = tenant; token = token; body = body; status = status }) before told after) (sym there) (between, carried, tidied);
    })
