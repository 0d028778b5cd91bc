-- What is read off the lines of an opening, and what becomes of a network to which they are added.
use Rattle.std.specs.Prelude.{ℕ, ℤ, ◌==◌, pos, neg_ℤ, List, [], ◌∷◌, Option, Some, None, option_and_then}
use Rattle.std.specs.Prelude.{if◌then◌else◌}
use Rattle.std.specs.Result.{result_ok}
use Rattle.common_types.specs.Names.{is_name}
use Rattle.common_types.specs.Numerals.{number_in}
use Rattle.common_types.specs.OptionChain.{◌>>=◌}
use Rattle.ilp_addr.specs.OwnAddress.{is_own_address}
use Rattle.money_core.specs.Account.{max_money}
use Rattle.route_table.specs.declared.route.Route.{Route}
use Rattle.statements.specs.Reading.{hop_read, max_number, number_read, passed, peer_number_read, prefix_spelled}
use Rattle.statements.specs.Reading.{terms_read, word_read}
use Rattle.statements.specs.declared.opening.StatedPeer.{StatedPeer}
use Rattle.statements.specs.declared.opening.StatedStart.{StatedStart}
use Rattle.statements.specs.declared.opening.StatedTenant.{StatedTenant}
use Rattle.tenant_core.specs.Terms.{is_balance_within}

-- the tenant's own terms
unfoldable pub tenant_read : List (List ℕ) → Option StatedTenant
tenant_read words = do
  verb ← word_read words
  tenant ← number_read 0 max_number verb.rest
  first ← word_read tenant.rest
  name ← passed is_name first.value
  second ← word_read first.rest
  address ← passed is_own_address second.value
  journal ← number_read 0 max_number second.rest
  margin ← number_read 0 max_number journal.rest
  hold ← number_read 0 max_number margin.rest
  Some (record {
    tenant = tenant.value;
    name = name;
    address = address;
    journal = journal.value;
    margin = margin.value;
    hold = hold.value;
  })

-- where the period's numbers begin
unfoldable pub start_read : List (List ℕ) → Option StatedStart
start_read words = do
  verb ← word_read words
  period ← number_read 0 max_number verb.rest
  clock ← number_read 0 max_number period.rest
  next_hold ← number_read 0 max_number clock.rest
  next_peer ← peer_number_read next_hold.rest
  Some (record { period = period.value; clock = clock.value; next_hold = next_hold.value; next_peer = next_peer.value })

-- ---- after the verb of a line of the network

-- an amount of money in digits
abbrev pub amount_spelled : List ℕ → Option ℕ
amount_spelled digits = result_ok (number_in 0 max_money digits)

-- a balance within its limits
abbrev pub balance_if_within : ℤ → Option ℤ
balance_if_within z = if is_balance_within z then Some z else None

-- a balance: an amount, after a `-` where it is below 0
unfoldable pub balance_spelled : List ℕ → Option ℤ
balance_spelled [] = None
balance_spelled (b ∷ bytes) =
    if b == 45 then option_and_then (λ n. balance_if_within (neg_ℤ (pos n))) (amount_spelled bytes)
    else option_and_then (λ n. balance_if_within (pos n)) (amount_spelled (b ∷ bytes))

unfoldable pub peer_read : List (List ℕ) → Option StatedPeer
peer_read words = do
  number ← peer_number_read words
  terms ← terms_read number.value number.rest
  word ← word_read terms.rest
  balance ← balance_spelled word.value
  credit ← number_read 0 max_number word.rest
  Some (record { number = number.value; terms = terms.value; balance = balance; credit = credit.value })

unfoldable pub route_read : List (List ℕ) → Option Route
route_read words = do
  word ← word_read words
  prefix ← prefix_spelled word.value
  hop ← hop_read word.rest
  Some (record { prefix = prefix; hop = hop.value })
