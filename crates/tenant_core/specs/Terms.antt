-- The limits of what is agreed with peers.
use Rattle.std.specs.Prelude.{ℤ, Bool, ◌&&◌, nat_le, unsigned_abs}
use Rattle.common_types.specs.Numbers.{is_between}
use Rattle.common_types.specs.Token.{is_token}
use Rattle.money_core.specs.Account.{max_money}
use Rattle.tenant_core.specs.Limits.{max_burst, max_per_second}
use Rattle.tenant_core.specs.declared.terms.BucketTerms.{BucketTerms}
use Rattle.tenant_core.specs.declared.terms.PeerLimits.{PeerLimits}
use Rattle.tenant_core.specs.declared.terms.PeerTerms.{PeerTerms}

-- cap, ceiling and credit are at most 2^62
abbrev pub are_limits_within : PeerLimits → Bool
are_limits_within l = nat_le l.cap max_money && nat_le l.ceiling max_money && nat_le l.credit max_money

-- a burst is 1 to 1,000,000 packets, and at most 1,000,000 packets a second follow it
abbrev pub is_bucket_within : BucketTerms → Bool
is_bucket_within b = is_between 1 max_burst b.burst && nat_le b.per_second max_per_second

-- what is agreed with a peer is within its limits, and its token is one
abbrev pub are_terms_within : PeerTerms → Bool
are_terms_within t = are_limits_within t.limits && is_bucket_within t.bucket && is_token t.token

-- a balance is at most 2^62 on either side of 0
abbrev pub is_balance_within : ℤ → Bool
is_balance_within b = nat_le (unsigned_abs b) max_money
