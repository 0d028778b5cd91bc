-- Peers in plain words: those of the opening and those that records added, each as the later records leave it.
use Rattle.std.specs.Prelude.{ℕ, ◌≡◌, ◌+◌, ◌==◌, Bool, false, List, [], ◌∷◌, ◌++◌, map, fold, if◌then◌else◌}
use Rattle.std.specs.List.{flat_map, list_any}
use Rattle.tenant_core.specs.Present.{network_of}
use Rattle.tenant_core.specs.State.{State}
use Rattle.tenant_core.specs.declared.journal.Change.{Change as Changed}
use Rattle.tenant_core.specs.declared.journal.Change.TheVariants.{PeerAdded, PeerRemoved, LimitsSet, BucketSet}
use Rattle.tenant_core.specs.declared.journal.Entry.{Entry}
use Rattle.tenant_core.specs.declared.journal.Entry.TheVariants.{Change}
use Rattle.tenant_core.specs.declared.journal.Record.{Record}
use Rattle.tenant_core.specs.declared.peer.Peer.{Peer}
use Rattle.tenant_core.specs.declared.terms.BucketTerms.{BucketTerms}
use Rattle.tenant_core.specs.declared.terms.PeerLimits.{PeerLimits}
use Rattle.tenant_core.specs.declared.terms.PeerTerms.{PeerTerms}

-- a peer's number, and what is agreed with it
pub record Agreed : Type 0 where
  pub number : ℕ
  pub terms : PeerTerms

-- those of a peer
abbrev pub agreed_with : Peer → Agreed
agreed_with p = record { number = p.number; terms = p.terms }

-- ---- what an entry says of the peer of a number

-- the change takes it away
abbrev pub is_removal : ℕ → Changed → Bool
is_removal n (PeerRemoved m) = n == m
is_removal n _ = false

-- the entry takes it away
abbrev pub takes_away : ℕ → Entry → Bool
takes_away n (Change c) = is_removal n c.change
takes_away n _ = false

-- the limits that the change sets for it, or those if it sets none
abbrev pub limits_set : ℕ → PeerLimits → Changed → PeerLimits
limits_set n was (LimitsSet m limits) = if n == m then limits else was
limits_set n was _ = was

-- the limits that the entry sets for it, or those if it sets none
abbrev pub limits_by : ℕ → PeerLimits → Entry → PeerLimits
limits_by n was (Change c) = limits_set n was c.change
limits_by n was _ = was

-- the bucket that the change sets for it, or that one if it sets none
abbrev pub bucket_set : ℕ → BucketTerms → Changed → BucketTerms
bucket_set n was (BucketSet m bucket) = if n == m then bucket else was
bucket_set n was _ = was

-- the bucket that the entry sets for it, or that one if it sets none
abbrev pub bucket_by : ℕ → BucketTerms → Entry → BucketTerms
bucket_by n was (Change c) = bucket_set n was c.change
bucket_by n was _ = was

-- ---- what records leave

-- the limits of the last record that sets them for the peer of that number, or those if none does
abbrev pub last_limits : ℕ → PeerLimits → List Record → PeerLimits
last_limits n was records = fold (λ l r. limits_by n l r.entry) was records

-- the bucket of the last record that sets it for the peer of that number, or that one if none does
abbrev pub last_bucket : ℕ → BucketTerms → List Record → BucketTerms
last_bucket n was records = fold (λ b r. bucket_by n b r.entry) was records

-- what is agreed with a peer after the records
abbrev pub agreed_after : List Record → Agreed → Agreed
agreed_after records p =
    record p {
      terms = record p.terms {
        limits = last_limits p.number p.terms.limits records;
        bucket = last_bucket p.number p.terms.bucket records;
      };
    }

-- the peer after the records, unless one of them takes it away
abbrev pub left_by : List Record → Agreed → List Agreed
left_by records p =
    if list_any (λ r. takes_away p.number r.entry) records then [] else agreed_after records p ∷ []

-- the peer that the change adds under that number, if it does, after the later records
abbrev pub added_in : ℕ → Changed → List Record → List Agreed
added_in next (PeerAdded t) behind = left_by behind (record { number = next; terms = t })
added_in next _ behind = []

-- the peer that the entry adds
abbrev pub added_by : ℕ → Entry → List Record → List Agreed
added_by next (Change c) behind = added_in next c.change behind
added_by next _ behind = []

-- the number of the next peer after the change
abbrev pub next_in : ℕ → Changed → ℕ
next_in next (PeerAdded t) = next + 1
next_in next _ = next

-- the number of the next peer after the entry
abbrev pub next_by : ℕ → Entry → ℕ
next_by next (Change c) = next_in next c.change
next_by next _ = next

-- the peers that records add, the first of them under that number, each after the records that follow its own
abbrev pub peers_added : ℕ → List Record → List Agreed
peers_added next [] = []
peers_added next (r ∷ rs) = added_by next r.entry rs ++ peers_added (next_by next r.entry) rs

-- The peers of a state are those of its opening and those that its records added, in this order, less those that a
-- later record took away. Each has the limits and the bucket of the last record that set them, or those that it came
-- with
abbrev pub PeerLaw : Type 0
PeerLaw =
    (s : State) → map agreed_with (network_of s).peers
    ≡ flat_map (left_by s.records) (map agreed_with s.opening.network.peers)
    ++ peers_added s.opening.network.next_peer s.records
