use Rattle.std.proofs.Common.{List, ℕ, subst}
use Rattle.oer_core.specs.Writing.{Writes}
use Rattle.ilp_view.specs.Packet.{reject_frame}
use Rattle.floor_core.specs.Replies.{message_of}
use Rattle.tenant_core.specs.Codes.{code_of}
use Rattle.floor_core.proofs.replies.put_refusal.Goals as goal

pub returns-in-Some-clause-written : goal.returns-in-Some-clause-written
returns-in-Some-clause-written c =
    rw c.in-Some.is (subst (λ (payload : List ℕ).
    Writes c.args.out.now 0 (reject_frame (code_of c.args.code) c.args.address.now (message_of c.args.code) payload) c.put_reject-in-Some.new.out c.put_reject-in-Some.result)
    c.two_amounts.ensures c.put_reject-in-Some.ensures.written)
