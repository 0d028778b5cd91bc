-- The limits of tenants.
use Rattle.std.specs.Prelude.{ℕ}
use Rattle.common_types.specs.declared.limits.TheConstants.{MAX_TENANTS}
use Rattle.tenant_core.specs.declared.limits.TheConstants.{MAX_PEERS, MAX_RATES, MAX_JOURNAL, MAX_HOLDS}
use Rattle.tenant_core.specs.declared.limits.TheConstants.{MAX_MARGIN, MAX_HOLD, MAX_BURST, MAX_PER_SECOND, MAX_PERIOD, MAX_PEER_NUMBERS}

-- how many tenants there are
abbrev pub max_tenants : ℕ
max_tenants = MAX_TENANTS

-- peers of a tenant
abbrev pub max_peers : ℕ
max_peers = MAX_PEERS

-- rates of a tenant
abbrev pub max_rates : ℕ
max_rates = MAX_RATES

-- places of a journal
abbrev pub max_journal : ℕ
max_journal = MAX_JOURNAL

-- packets that are held at once
abbrev pub max_holds : ℕ
max_holds = MAX_HOLDS

-- milliseconds by which an expiry is moved earlier
abbrev pub max_margin : ℕ
max_margin = MAX_MARGIN

-- milliseconds for which a packet may be held
abbrev pub max_hold : ℕ
max_hold = MAX_HOLD

-- packets that a full bucket admits at once
abbrev pub max_burst : ℕ
max_burst = MAX_BURST

-- packets that flow into a bucket in a second
abbrev pub max_per_second : ℕ
max_per_second = MAX_PER_SECOND

-- the number of a period
abbrev pub max_period : ℕ
max_period = MAX_PERIOD

-- peers that a tenant ever has
abbrev pub max_peer_numbers : ℕ
max_peer_numbers = MAX_PEER_NUMBERS
