-- What a verdict holds keeps the bounds of both purses, check by check.
use Rattle.std.proofs.Common.{◌≡◌, ℕ, ◌≤◌, ℤ, pos, ◌≤ℤ◌, Bool, true, false, cond, eqb, arith, refl, subst}
use Rattle.std.specs.Prelude.{Result, Ok, Err, Option, Some, None, IfSome, neg_ℤ, nat_le, nat_lt, int_lt, not, option_and_then, option_map}
use Rattle.std.specs.Int.Signed.{lt_z_no}
use Rattle.std.proofs.lemmas.Float.{T_from_false}
use Rattle.std.proofs.lemmas.Int.{ints}
use Rattle.ildcp_core.specs.Request.{is_config, checked_request}
use Rattle.ildcp_core.specs.declared.fault.IldcpFault.{IldcpFault}
use Rattle.ildcp_core.specs.declared.fault.IldcpFault.TheVariants.{NotChild, Amount, Condition}
use Rattle.money_core.specs.Fraction.{Fraction}
use Rattle.money_core.specs.Price.{price_less}
use Rattle.rate_bucket.specs.Bucket.{is_admitted}
use Rattle.route_table.specs.Routes.{best_route}
use Rattle.route_table.specs.declared.hop.Hop.{Hop}
use Rattle.tenant_core.specs.declared.peer.Peer.{Peer}
use Rattle.tenant_core.specs.declared.verdict.Verdict.{Verdict}
use Rattle.tenant_core.specs.declared.verdict.RejectCode.TheVariants.{InsufficientSource, Unreachable}
use Rattle.tenant_core.specs.Bucket.{stretch_of}
use Rattle.tenant_core.specs.Checks.{◌otherwise◌}
use Rattle.tenant_core.specs.Key.{Key}
use Rattle.money_core.specs.Account.{max_money}
use Rattle.tenant_core.specs.Limits.{max_holds}
use Rattle.tenant_core.specs.Purse.{is_over_ceiling, is_over_credit}
use Rattle.tenant_core.specs.Routing.{Way, another, onward, way_by, stays_here, rate_between, outgoing_expiry}
use Rattle.tenant_core.specs.Holds.{open_holds}
use Rattle.tenant_core.specs.Network.{Net, peer_numbered}
use Rattle.tenant_core.specs.Present.{network_of}
use Rattle.tenant_core.specs.State.{State}
use Rattle.tenant_core.specs.Judge.{verdict_for_sender, verdict_at_rate, config_verdict, refuse}
use Rattle.tenant_core.proofs.Purses.{IsPaid, HasLimits, has_limits, has_terms_within, AreLimited, found_passes}

-- ---- one line

passed : (s : State) (n amount : ℕ) (b : Bool) (v w : Verdict) → IsPaid s n amount v → (b ≡ false → IsPaid s n amount w) → IsPaid s n amount (cond b v w)
passed s n amount true v w p q = p
passed s n amount false v w p q = q refl

found : {A : Type 0} (s : State) (n amount : ℕ) (o : Option A) (v : Verdict) (next : A → Verdict) → IsPaid s n amount v
    → ((x : A) → o ≡ Some x → IsPaid s n amount (next x)) → IsPaid s n amount ((o otherwise v) next)
found s n amount None v next p q = p
found s n amount (Some x) v next p q = q x refl

not_over : (a b c : ℤ) → int_lt a b ≡ false → a ≤ℤ c → b ≤ℤ c
not_over a b c e h = let l = lt_z_no {a = a} {b = b} (T_from_false _ e) in omega (arith, ints)

not_under : (a b c : ℤ) → int_lt a b ≡ false → c ≤ℤ b → c ≤ℤ a
not_under a b c e h = let l = lt_z_no {a = a} {b = b} (T_from_false _ e) in omega (arith, ints)

within_pos : (n : ℕ) → n ≤ max_money → pos n ≤ℤ pos max_money
within_pos n h = omega (arith, ints)

within_neg : (n : ℕ) → n ≤ max_money → neg_ℤ (pos max_money) ≤ℤ neg_ℤ (pos n)
within_neg n h = omega (arith, ints)

-- ---- all of them

rate_paid : (s : State) (from : Peer) (way : Way) (rate : Fraction) (key : Key) (clock : ℕ) → HasLimits from.terms → HasLimits way.peer.terms
    → IsPaid s from.number key.amount (verdict_at_rate s from way rate key clock)
rate_paid s from way rate key clock f t =
    found s from.number key.amount (price_less rate key.amount way.fee) (refuse InsufficientSource) _ tt (λ price _.
    passed s from.number key.amount (nat_lt way.peer.terms.limits.cap price) _ _ tt (λ _.
    passed s from.number key.amount (nat_le (outgoing_expiry s.opening key.expiry clock) clock) _ _ tt (λ _.
    passed s from.number key.amount (is_over_ceiling s from key.amount) _ _ tt (λ c.
    passed s from.number key.amount (is_over_credit s way.peer price) _ _ tt (λ d.
    passed s from.number key.amount (nat_le max_holds (open_holds s)) _ _ tt (λ _. (
      not_over _ _ _ c (within_pos from.terms.limits.ceiling f.ceiling),
      not_under _ _ _ d (within_neg way.peer.terms.limits.credit t.credit),
      refl,
    )))))))

way_passes : (fee : ℕ) (o : Option Peer) → IfSome o (λ p. has_terms_within p ≡ true)
    → IfSome (option_map (λ p. let way : Way = record { peer = p; fee = fee } in way) o) (λ way. has_terms_within way.peer ≡ true)
way_passes fee None e = tt
way_passes fee (Some p) e = e

onward_passes : (net : Net) (n : Option Hop) → AreLimited net.peers
    → IfSome (option_and_then (way_by net) n) (λ way. has_terms_within way.peer ≡ true)
onward_passes net None e = tt
onward_passes net (Some hop) e = way_passes hop.fee (peer_numbered hop.peer net.peers) (found_passes (λ p. eqb p.number hop.peer) net.peers e)

config_paid : (s : State) (n amount : ℕ) (r : Result (Unit {0}) IldcpFault) → IsPaid s n amount (config_verdict r)
config_paid s n amount (Ok good) = tt
config_paid s n amount (Err NotChild) = tt
config_paid s n amount (Err Amount) = tt
config_paid s n amount (Err Condition) = tt

pub sender_paid : (s : State) (from : Peer) (key : Key) (clock : ℕ) → AreLimited (network_of s).peers
    → HasLimits from.terms → IsPaid s from.number key.amount (verdict_for_sender s from key clock)
sender_paid s from key clock within f =
    passed s from.number key.amount (not (is_admitted (stretch_of s from) clock)) _ _ tt (λ _.
    passed s from.number key.amount (nat_le key.expiry clock) _ _ tt (λ _.
    passed s from.number key.amount (is_config key.destination) _ _ (config_paid s from.number key.amount (checked_request from.terms.role key.amount key.condition)) (λ _.
    passed s from.number key.amount (stays_here s.opening key.destination) _ _ tt (λ _.
    passed s from.number key.amount (nat_lt from.terms.limits.cap key.amount) _ _ tt (λ _.
    found s from.number key.amount (onward (network_of s) from.number key.destination) (refuse Unreachable) _ tt (λ way is.
    found s from.number key.amount (rate_between (network_of s) from.number way.peer.number) (refuse Unreachable) _ tt (λ rate _.
    rate_paid s from way rate key clock f (has_limits way.peer.terms (passes way is)))))))))
  where
    passes : (way : Way) → onward (network_of s) from.number key.destination ≡ Some way → has_terms_within way.peer ≡ true
    passes way is =
        let each = onward_passes (network_of s) (option_and_then (another from.number) (best_route (network_of s).routes key.destination)) within in
        subst (λ o. IfSome o (λ (w : Way). has_terms_within w.peer ≡ true)) is each
