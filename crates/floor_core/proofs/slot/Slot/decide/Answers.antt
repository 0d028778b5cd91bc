use Rattle.std.proofs.Common.{◌≡◌, take, List, ℕ, length, sym, ap, subst, ◌∙◌}
use Rattle.std.specs.Prelude.{IfOk, IsOk, IsSome, Option}
use Rattle.ilp_addr.specs.Target.{Parts as TargetParts}
use Rattle.ilp_addr.specs.Timestamp.{timestamp_of}
use Rattle.ilp_view.specs.Packet.{with_amount_and_expiry}
use Rattle.ilp_view.specs.Reading.{prepare_at}
use Rattle.oer_core.specs.Writing.{Writes}
use Rattle.tenant_core.specs.declared.verdict.Verdict.TheVariants.{Forward}
use Rattle.floor_core.specs.Replies.{decision_reply}
use Rattle.floor_core.specs.SlotView.{IsQuiet, IsReadAt}
use Rattle.floor_core.specs.Work.{Called, Work}
use Rattle.floor_core.specs.declared.slot.Stage.{Stage}
use Rattle.floor_core.proofs.Decides.{book_called, call_told, ended, read_is_readable, refilled_same, sent, slot_decided, target_is_there, told, waiting, written_back}
use Rattle.floor_core.proofs.slot.Slot.decide.Goals as goal

pub keep_target-requires : goal.keep_target-requires
keep_target-requires c =
    let x = c.self.inside in
    let is = read_is_readable _ _ (subst (λ (y : Stage). IsReadAt y (take x.frame_len x.frame)) c.in-Loaded.is c.self.invariant.read) in
    let reads = subst (λ (b : List ℕ). IsOk (prepare_at (take x.frame_len b))) (sym c.as_slice-room.ensures.value) is in
    target_is_there c.args.book.now c.decided-verdict.new.book c.as_bytes-token.result.now (prepare_at (take x.frame_len c.as_slice-room.result.now)) c.args.now
    c.in-Forward.hold c.in-Forward.peer c.in-Forward.amount c.in-Forward.expiry reads c.in-Forward.ensures.verdict c.decided-verdict.ensures.network

pub invariant_of-self-in-Forward : goal.invariant_of-self-in-Forward
invariant_of-self-in-Forward c =
    let x = c.self.inside in
    let is = read_is_readable _ _ (subst (λ (y : Stage). IsReadAt y (take x.frame_len x.frame)) c.in-Loaded.is c.self.invariant.read) in
    let reads = subst (λ (b : List ℕ). IsOk (prepare_at (take x.frame_len b))) (sym c.as_slice-room.ensures.value) is in
    let there =
    target_is_there c.args.book.now c.decided-verdict.new.book c.as_bytes-token.result.now (prepare_at (take x.frame_len c.as_slice-room.result.now)) c.args.now
    c.in-Forward.hold c.in-Forward.peer c.in-Forward.amount c.in-Forward.expiry reads c.in-Forward.ensures.verdict c.decided-verdict.ensures.network in
    record {
      read = tt;
      named = tt;
      somewhere = subst (λ (o : Option TargetParts). IsSome o) (sym c.keep_target.ensures) there;
      frame_len = c.self.invariant.frame_len;
      reply_len = c.self.invariant.reply_len;
      quiet = subst (λ (y : Stage). IsQuiet y x.reply_len) c.in-Loaded.is c.self.invariant.quiet;
    }

pub returns-in-Forward-clause-slot : goal.returns-in-Forward-clause-slot
returns-in-Forward-clause-slot c =
    let x = c.self.inside in
    let v = c.in-Forward in
    let d =
    slot_decided c.self.inside c.args.self.now c.args.book.now c.decided-verdict.new.book c.in-Loaded.tenant c.in-Loaded.places _ _ c.args.now (Forward v.hold v.peer v.amount v.expiry)
    c.self.view_is c.in-Loaded.is (sym c.tenant.ensures ∙ c.if-tenant.false) c.self.invariant.read c.as_bytes-token.ensures.value c.as_slice-room.ensures.value v.ensures.verdict c.decided-verdict.ensures.book in
    let value = c.as_mut_slice.ensures.value in
    let same = refilled_same x.frame c.rewrite.new.room (c.rewrite.auto.room ∙ ap length value) in
    let quiet = subst (λ (y : Stage). IsQuiet y x.reply_len) c.in-Loaded.is c.self.invariant.quiet in
    let written =
    subst (λ (f : List ℕ). IfOk (prepare_at (take x.frame_len f)) (λ p. take x.frame_len c.rewrite.new.room ≡ with_amount_and_expiry p v.amount (timestamp_of v.expiry)))
    value c.rewrite.ensures in
    ap (λ (r : List ℕ). waiting c.in-Loaded.tenant v.hold (take x.frame_len r) c.keep_target.new.kept v.expiry (take x.reply_len x.reply) x.reply) same
    ∙ ap (λ (r : List ℕ). waiting c.in-Loaded.tenant v.hold (take x.frame_len c.rewrite.new.room) c.keep_target.new.kept v.expiry (take x.reply_len x.reply) r) (ap (λ (w : Work). w.room) c.self.view_is)
    ∙ ap (λ (z : Called). z.work) (sent c.args.self.now c.args.book.now c.decided-verdict.new.book c.in-Loaded.tenant x.token (take x.frame_len x.frame) (take x.frame_len c.rewrite.new.room)
    (take x.reply_len x.reply) c.keep_target.new.kept c.args.now v.hold v.peer v.amount v.expiry d written
    c.decided-verdict.ensures.network c.keep_target.ensures (ap (λ (n : ℕ). take n x.reply) quiet))

pub returns-in_default-verdict-clause-turn : goal.returns-in_default-verdict-clause-turn
returns-in_default-verdict-clause-turn c =
    let d =
    slot_decided c.self.inside c.args.self.now c.args.book.now c.decided-verdict.new.book c.in-Loaded.tenant c.in-Loaded.places _ _ c.args.now c.decided-verdict.result
    c.self.view_is c.in-Loaded.is (sym c.tenant.ensures ∙ c.if-tenant.false) c.self.invariant.read c.as_bytes-token.ensures.value c.as_slice-room.ensures.value c.decided-verdict.ensures.verdict c.decided-verdict.ensures.book in
    sym (ap (λ (z : Called). z.turn) (call_told d c.in_default-verdict.not-Unknown c.in_default-verdict.not-Forward))

pub returns-in_default-verdict-clause-slot : goal.returns-in_default-verdict-clause-slot
returns-in_default-verdict-clause-slot c =
    let x = c.self.inside in
    let t = c.decided-verdict.new.book in
    let v = c.decided-verdict.result in
    let put = c.put_decision-self-inside in
    let d =
    slot_decided c.self.inside c.args.self.now c.args.book.now c.decided-verdict.new.book c.in-Loaded.tenant c.in-Loaded.places _ _ c.args.now c.decided-verdict.result
    c.self.view_is c.in-Loaded.is (sym c.tenant.ensures ∙ c.if-tenant.false) c.self.invariant.read c.as_bytes-token.ensures.value c.as_slice-room.ensures.value c.decided-verdict.ensures.verdict c.decided-verdict.ensures.book in
    let back = written_back x.reply _ put.new.out _ put.result c.as_mut_slice-in_default-verdict.ensures.value put.auto.out put.ensures.written in
    let in_room = subst (λ (r : List ℕ). Writes r 0 (decision_reply t c.as_bytes-token.result.now v) put.new.out put.result) (ap (λ (w : Work). w.room) c.self.view_is) back.1 in
    let reply = subst (λ (k : List ℕ). Writes c.args.self.now.room 0 (decision_reply t k v) put.new.out put.result) c.as_bytes-token.ensures.value in_room in
    ap (λ (r : List ℕ). ended (take put.result r) r) back.0
    ∙ ap (λ (z : Called). z.work) (told c.args.self.now c.args.book.now t c.in-Loaded.tenant x.token (take x.frame_len x.frame) put.new.out c.args.now put.result v d
    c.in_default-verdict.not-Unknown c.in_default-verdict.not-Forward c.decided-verdict.ensures.opening c.decided-verdict.ensures.network reply)

pub returns-in_default-verdict-clause-book : goal.returns-in_default-verdict-clause-book
returns-in_default-verdict-clause-book c =
    let x = c.self.inside in
    let d =
    slot_decided c.self.inside c.args.self.now c.args.book.now c.decided-verdict.new.book c.in-Loaded.tenant c.in-Loaded.places _ _ c.args.now c.decided-verdict.result
    c.self.view_is c.in-Loaded.is (sym c.tenant.ensures ∙ c.if-tenant.false) c.self.invariant.read c.as_bytes-token.ensures.value c.as_slice-room.ensures.value c.decided-verdict.ensures.verdict c.decided-verdict.ensures.book in
    book_called c.args.self.now c.args.book.now c.decided-verdict.new.book c.in-Loaded.tenant x.token (take x.frame_len x.frame) c.args.now c.decided-verdict.result d
