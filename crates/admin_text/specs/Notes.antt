-- What may be wrong with the money of a good setup.
use Rattle.std.specs.Prelude.{ℕ, ◌*◌, Bool, false, not, ◌&&◌, ◌==◌, nat_lt, List, [], ◌∷◌, ◌++◌, length, codes, option_map}
use Rattle.std.specs.Prelude.{if◌then◌else◌, Option, Some, None, Result, Ok, Err}
use Rattle.std.specs.FinMap.{len, values}
use Rattle.std.specs.List.{flat_map, list_any}
use Rattle.money_core.specs.Fraction.{Fraction}
use Rattle.tenant_core.specs.Network.{Net, peer_numbered}
use Rattle.tenant_core.specs.Routing.{rate_between}
use Rattle.tenant_core.specs.declared.peer.Peer.{Peer}
use Rattle.tenant_core.specs.declared.terms.RateTerms.{RateTerms}
use Rattle.tenant_core.specs.declared.terms.TenantTerms.{TenantTerms}
use Rattle.admin_text.specs.Setup.{setup_of}
use Rattle.admin_text.specs.declared.noted.Note.{Note}
use Rattle.admin_text.specs.declared.noted.Note.TheVariants.{Seconds, NoRoute, NoRate, NotReached, Gains}
use Rattle.admin_text.specs.declared.setup.Setup.{Setup}
use Rattle.admin_text.specs.declared.setup.SetupFault.{SetupFault}

-- ---- when each is there

-- a start after 0 that would be before the year 5139 if it were in seconds
abbrev pub notes_of_start : ℕ → List Note
notes_of_start start = if nat_lt 0 start && nat_lt start 100_000_000_000 then Seconds ∷ [] else []

-- a route leads to the peer of that number
abbrev pub has_route_to : Net → ℕ → Bool
has_route_to net n = list_any (λ hop. hop.peer == n) (values net.routes)

-- a rate leads to it
abbrev pub has_rate_to : Net → ℕ → Bool
has_rate_to net n = list_any (λ r. r.to == n) net.rates

-- a peer with a route to it, and no rate to it
abbrev pub notes_of_peer : TenantTerms → Peer → List Note
notes_of_peer t p =
    if has_route_to t.network p.number && not (has_rate_to t.network p.number) then NotReached t.name p.terms.name ∷ [] else []

-- a rate there and one back, of which the products of the numbers are those of a fraction above 1
abbrev pub gains : Fraction → Option Fraction → Bool
gains there None = false
gains there (Some back) = nat_lt (there.denominator * back.denominator) (there.numerator * back.numerator)

-- the name of the peer of that number
abbrev pub name_numbered : Net → ℕ → Option (List ℕ)
name_numbered net n = option_map (λ p. p.terms.name) (peer_numbered n net.peers)

-- that two peers gain
abbrev pub notes_of_pair : List ℕ → Option (List ℕ) → Option (List ℕ) → List Note
notes_of_pair tenant (Some one) (Some other) = Gains tenant one other ∷ []
notes_of_pair tenant (Some one) None = []
notes_of_pair tenant None other = []

-- a rate to a peer from one that was added before it, which gains with the one back
abbrev pub notes_of_rate : TenantTerms → RateTerms → List Note
notes_of_rate t r =
    if nat_lt r.from r.to && gains r.rate (rate_between t.network r.to r.from)
    then notes_of_pair t.name (name_numbered t.network r.from) (name_numbered t.network r.to)
    else []

-- a tenant without a route
abbrev pub notes_of_routes : TenantTerms → List Note
notes_of_routes t = if len t.network.routes == 0 then NoRoute t.name ∷ [] else []

-- a tenant without a rate
abbrev pub notes_of_no_rates : TenantTerms → List Note
notes_of_no_rates t = if length t.network.rates == 0 then NoRate t.name ∷ [] else []

-- ---- all of them, in their order

-- of a tenant
abbrev pub notes_of_tenant : TenantTerms → List Note
notes_of_tenant t =
    notes_of_routes t ++ notes_of_no_rates t
    ++ flat_map (notes_of_peer t) t.network.peers ++ flat_map (notes_of_rate t) t.network.rates

-- of a setup
abbrev pub notes_of : Setup → List Note
notes_of s = notes_of_start s.start ++ flat_map notes_of_tenant s.tenants

-- of a setup that was read, and none of one that is wrong
abbrev pub notes_if : Result Setup SetupFault → List Note
notes_if (Ok s) = notes_of s
notes_if (Err fault) = []

-- of a text
abbrev pub notes_in : List ℕ → List Note
notes_in text = notes_if (setup_of text)

-- ---- their words

abbrev pub lines_joined : List (List ℕ) → List ℕ
lines_joined parts = flat_map (λ (part : List ℕ). part) parts

-- the words of a note, for people
abbrev pub note_words : Note → List ℕ
note_words Seconds = lines_joined (codes "start looks like seconds, and counts milliseconds" ∷ [])
note_words (NoRoute tenant) = lines_joined (codes "tenant " ∷ tenant ∷ codes " has no route: it sends no packet on" ∷ [])
note_words (NoRate tenant) = lines_joined (codes "tenant " ∷ tenant ∷ codes " has no rate: it sends no packet on" ∷ [])
note_words (NotReached tenant peer) =
    lines_joined (codes "tenant " ∷ tenant ∷ codes " has a route to " ∷ peer ∷ codes " and no rate to it: it sends no packet there" ∷ [])
note_words (Gains tenant one other) =
    lines_joined (codes "tenant " ∷ tenant ∷ codes " loses by its rates between " ∷ one ∷ codes " and " ∷ other
    ∷ codes ": what is sent there and back comes out as more" ∷ [])
