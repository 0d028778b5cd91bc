-- What comes of an event where it is known how its call stands.
use Rattle.std.proofs.Common.{◌≡◌, ℕ, List, Option, Some, None, refl, ap, ◌∙◌}
use Rattle.std.specs.Prelude.{Result, Ok}
use Rattle.ilp_addr.specs.Timestamp.{timestamp_of}
use Rattle.ilp_view.specs.Packet.{Prepare, with_amount_and_expiry}
use Rattle.tenant_core.specs.Answer.{answer_made, answer_to}
use Rattle.tenant_core.specs.Judge.{decide_made, judge}
use Rattle.tenant_core.specs.Network.{peer_numbered}
use Rattle.tenant_core.specs.Present.{network_of}
use Rattle.tenant_core.specs.declared.faults.HoldFault.{HoldFault}
use Rattle.tenant_core.specs.declared.journal.Record.{Record}
use Rattle.tenant_core.specs.declared.verdict.Verdict.{Verdict}
use Rattle.tenant_core.specs.declared.verdict.Verdict.TheVariants.{Unknown, NoRoom, Refuse, Fulfil, Forward, Relay}
use Rattle.floor_core.specs.Replies.{decision_reply}
use Rattle.floor_core.specs.World.{Effect, Event, Hand, Stage, Tenant, World, answer_key, arrival, arrived, bytes_given, call_answered, call_decided, call_judged, call_settled, effect_of, key_in, number_of, on_call, peer_name, put, settled_reply, told}
use Rattle.floor_core.specs.declared.step.PeerAnswer.{PeerAnswer}
use Rattle.floor_core.specs.declared.step.Malformed.{Malformed}
use Rattle.floor_core.specs.declared.step.Output.{Output}
use Rattle.floor_core.specs.declared.step.Output.TheVariants.{Stranger, Reply, Send}

-- where a call stands after a verdict
abbrev pub stage_after : Verdict → Option Stage
stage_after (Forward hold peer amount expiry) = Some (Stage.Sent hold)
stage_after _ = None

-- what is said of it
abbrev pub said : Tenant → List ℕ → Prepare → Verdict → Output
said s token p Unknown = Stranger (number_of s)
said s token p (Forward hold peer amount expiry) =
    Send (number_of s) (peer_name (peer_numbered peer (network_of s.book).peers)) hold
    (with_amount_and_expiry p amount (timestamp_of expiry))
said s token p v = Reply (number_of s) (decision_reply s.book token v)

judged_is : (s : Tenant) (call : ℕ) (token : List ℕ) (p : Prepare) (made : Option Record) (v : Verdict)
    → call_judged s call token p made v ≡ on_call s call (stage_after v) (said s token p v) made
judged_is s call token p made Unknown = refl
judged_is s call token p made NoRoom = refl
judged_is s call token p made (Refuse code amounts) = refl
judged_is s call token p made Fulfil = refl
judged_is s call token p made (Forward hold peer amount expiry) = refl
judged_is s call token p made Relay = refl

-- a packet's decide: its verdict
pub decide_effect : (s : Tenant) (call : ℕ) (token : List ℕ) (p : Prepare) (now : ℕ) (stage : Option Stage) → stage ≡ Some (Stage.Ready token p)
    → call_decided s call stage now
    ≡ on_call s call (stage_after (judge s.book token (key_in p) now)) (said s token p (judge s.book token (key_in p) now)) (decide_made s.book token (key_in p) now)
decide_effect s call token p now stage is =
    ap (λ (o : Option Stage). call_decided s call o now) is
    ∙ judged_is s call token p (decide_made s.book token (key_in p) now) (judge s.book token (key_in p) now)

-- a packet that was sent on: it is settled
pub answer_effect : (s : Tenant) (call hold now : ℕ) (given : PeerAnswer) (v : Verdict) (stage : Option Stage) → stage ≡ Some (Stage.Sent hold)
    → answer_to s.book hold now (answer_key given) ≡ Ok v
    → call_answered s call stage now given
    ≡ on_call s call None (Reply (number_of s) (settled_reply s.book.opening.address (bytes_given given) v)) (answer_made s.book hold now (answer_key given))
answer_effect s call hold now given v stage is settled =
    ap (λ (o : Option Stage). call_answered s call o now given) is
    ∙ ap (λ (r : Result Verdict HoldFault). call_settled s call given (answer_made s.book hold now (answer_key given)) r) settled

-- bytes that arrive
pub arrival_effect : (s : Tenant) (token bytes : List ℕ) (a : Result Prepare Malformed) → arrival token bytes ≡ a
    → effect_of s (Event.Arrives token bytes) ≡ arrived s token a
arrival_effect s token bytes a is = ap (λ (x : Result Prepare Malformed). arrived s token x) is

-- the world after what came of a step to a tenant
pub came : (w : World) (worker t : ℕ) (hand : Hand) (x y : Effect) → x ≡ y
    → (let m : World = record { tenants = put w.tenants t x.after; hands = put w.hands worker (told hand x.output) } in m)
    ≡ record { tenants = put w.tenants t y.after; hands = put w.hands worker (told hand y.output) }
came w worker t hand x y e = λ j. record { tenants = put w.tenants t (e j).after; hands = put w.hands worker (told hand (e j).output) }
