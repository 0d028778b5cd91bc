-- The bucket of a peer, as the records of a state leave it.
use Rattle.std.specs.Prelude.{ℕ, Bool, ◌&&◌, not, false, true, List, [], ◌∷◌, drop, if◌then◌else◌}
use Rattle.rate_bucket.specs.Bucket.{Stretch}
use Rattle.tenant_core.specs.State.{State, later, is_of}
use Rattle.tenant_core.specs.declared.peer.Peer.{Peer}
use Rattle.tenant_core.specs.declared.journal.Outcome.{Outcome}
use Rattle.tenant_core.specs.declared.journal.Outcome.TheVariants.{Packet}
use Rattle.tenant_core.specs.declared.journal.Record.{Record}
use Rattle.tenant_core.specs.declared.verdict.RejectCode.{RejectCode}
use Rattle.tenant_core.specs.declared.verdict.RejectCode.TheVariants.{RateLimited}
use Rattle.tenant_core.specs.declared.verdict.Verdict.{Verdict}
use Rattle.tenant_core.specs.declared.verdict.Verdict.TheVariants.{Refuse}

-- the code says that the bucket did not admit the packet
abbrev pub is_limited_by : RejectCode → Bool
is_limited_by RateLimited = true
is_limited_by _ = false

-- the verdict is that the bucket did not admit the packet
abbrev pub is_limited : Verdict → Bool
is_limited (Refuse code amounts) = is_limited_by code
is_limited _ = false

-- the bucket admitted what led to this
abbrev pub admits : Outcome → Bool
admits (Packet v) = not (is_limited v)
admits _ = false

-- the clocks at which records that follow that clock say that packets of the peer of that number were admitted
abbrev pub admitted_clocks : ℕ → ℕ → List Record → List ℕ
admitted_clocks n clock [] = []
admitted_clocks n clock (r ∷ rs) =
    if is_of n r.entry && admits r.outcome
    then later clock r ∷ admitted_clocks n (later clock r) rs
    else admitted_clocks n (later clock r) rs

-- the bucket of a peer since its level was taken, which those records follow
abbrev pub bucket_of : Peer → List Record → Stretch
bucket_of p records =
    record {
      start = p.bucket.clock;
      credit = p.bucket.credit;
      burst = p.terms.bucket.burst;
      per_second = p.terms.bucket.per_second;
      admitted = admitted_clocks p.number p.bucket.clock records;
    }

-- the bucket of a peer of a state
abbrev pub stretch_of : State → Peer → Stretch
stretch_of s p = bucket_of p (drop p.bucket.entries s.records)
