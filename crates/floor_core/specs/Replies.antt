-- What the connector itself answers to a Prepare: Rejects (RFC 0027, "ILP Reject" and "Error Codes"), and a child's
-- configuration (RFC 0031).
use Rattle.std.specs.Prelude.{ℕ, List, [], ◌++◌, Option, Some, None, option_map, codes}
use Rattle.std.specs.Int.{w64, to_be_bytes}
use Rattle.ildcp_core.specs.Answer.{config_answer}
use Rattle.ildcp_core.specs.Client.{Client}
use Rattle.ilp_view.specs.Packet.{reject_frame}
use Rattle.tenant_core.specs.Codes.{code_of}
use Rattle.tenant_core.specs.Judge.{child_of}
use Rattle.tenant_core.specs.Network.{peer_with_token}
use Rattle.tenant_core.specs.Present.{network_of}
use Rattle.tenant_core.specs.State.{State}
use Rattle.tenant_core.specs.declared.verdict.RejectCode.{RejectCode}
use Rattle.tenant_core.specs.declared.verdict.RejectCode.TheVariants.{BadRequest, Unreachable, InvalidAmount}
use Rattle.tenant_core.specs.declared.verdict.RejectCode.TheVariants.{WrongCondition, AmountTooLarge, PeerUnreachable}
use Rattle.tenant_core.specs.declared.verdict.RejectCode.TheVariants.{Busy, InsufficientLiquidity, RateLimited}
use Rattle.tenant_core.specs.declared.verdict.RejectCode.TheVariants.{TimedOut, InsufficientSource, InsufficientTimeout}
use Rattle.tenant_core.specs.declared.verdict.Verdict.{Verdict}
use Rattle.tenant_core.specs.declared.verdict.Verdict.TheVariants.{Unknown, NoRoom, Refuse, Fulfil, Forward, Relay}

-- the message for people
abbrev pub message_of : RejectCode → List ℕ
message_of BadRequest = codes "bad request"
message_of Unreachable = codes "unreachable"
message_of InvalidAmount = codes "invalid amount"
message_of WrongCondition = codes "wrong condition"
message_of AmountTooLarge = codes "amount too large"
message_of PeerUnreachable = codes "peer unreachable"
message_of Busy = codes "connector busy"
message_of InsufficientLiquidity = codes "insufficient liquidity"
message_of RateLimited = codes "rate limited"
message_of TimedOut = codes "transfer timed out"
message_of InsufficientSource = codes "insufficient source amount"
message_of InsufficientTimeout = codes "insufficient timeout"

-- the received and the greatest amount, if there are any
abbrev pub amounts_data : Option (ℕ × ℕ) → List ℕ
amounts_data None = []
amounts_data (Some amounts) = to_be_bytes w64 amounts.0 ++ to_be_bytes w64 amounts.1

-- a refusal by the tenant of this address
abbrev pub refusal_reply : List ℕ → RejectCode → Option (ℕ × ℕ) → List ℕ
refusal_reply address code amounts = reject_frame (code_of code) address (message_of code) (amounts_data amounts)

-- the refusal of a packet for which the journal has no room
abbrev pub busy_reply : List ℕ → List ℕ
busy_reply address = refusal_reply address Busy None

-- the answer to a child; no bytes for any other peer
abbrev pub config_reply : Option Client → List ℕ
config_reply None = []
config_reply (Some c) = config_answer c

-- the peer that shows this token, as far as its configuration goes
abbrev pub client_with_token : State → List ℕ → Option Client
client_with_token s token = option_map (child_of s.opening) (peer_with_token token (network_of s).peers)

-- the reply to the sender of a packet that came with this token, by the verdict; no bytes if the verdict has no
-- reply
abbrev pub decision_reply : State → List ℕ → Verdict → List ℕ
decision_reply s token Unknown = []
decision_reply s token NoRoom = busy_reply s.opening.address
decision_reply s token (Refuse code amounts) = refusal_reply s.opening.address code amounts
decision_reply s token Fulfil = config_reply (client_with_token s token)
decision_reply s token (Forward hold peer amount expiry) = []
decision_reply s token Relay = []
