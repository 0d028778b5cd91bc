-- What is read off the words of a statement's line. What takes no memory is read as far as the first word that fails.
use Rattle.std.specs.Prelude.{ℕ, ◌≡◌, ◌==◌, ◌-◌, ◌^◌, Bool, List, [], ◌∷◌, codes, Option, Some, None, option_map, if◌then◌else◌}
use Rattle.std.specs.Fmt.{decimal}
use Rattle.std.specs.List.{slice_split}
use Rattle.std.specs.Result.{result_ok}
use Rattle.std.specs.Str.{bytes_eq}
use Rattle.common_types.specs.Names.{is_name, is_asset_code}
use Rattle.common_types.specs.Numerals.{number_in}
use Rattle.common_types.specs.OptionChain.{◌>>=◌}
use Rattle.hex.specs.Hex.{decode_sized}
use Rattle.ildcp_core.specs.declared.child.Role.{Role}
use Rattle.ildcp_core.specs.declared.child.Role.TheVariants.{Child, Peer as Equal}
use Rattle.ilp_addr.specs.Address.{prefix_at}
use Rattle.ilp_addr.specs.Target.{Parts}
use Rattle.ilp_addr.specs.declared.target.Host.TheVariants.{V4}
use Rattle.money_core.specs.Account.{max_money}
use Rattle.money_core.specs.Price.{rate_at}
use Rattle.route_table.specs.declared.hop.Hop.{Hop}
use Rattle.tenant_core.specs.Limits.{max_burst, max_per_second}
use Rattle.tenant_core.specs.declared.command.Side.{Side}
use Rattle.tenant_core.specs.declared.command.Side.TheVariants.{In, Out}
use Rattle.tenant_core.specs.declared.journal.AnswerKey.{AnswerKey}
use Rattle.tenant_core.specs.declared.journal.AnswerKey.TheVariants.{Fulfilled, Rejected, Fault}
use Rattle.tenant_core.specs.declared.journal.Change.{Change as Changed}
use Rattle.tenant_core.specs.declared.journal.Change.TheVariants.{PeerAdded, PeerRemoved, LimitsSet, BucketSet}
use Rattle.tenant_core.specs.declared.journal.Change.TheVariants.{RouteAdded, RouteRemoved, RateSet, Settled}
use Rattle.tenant_core.specs.declared.journal.Entry.{Entry}
use Rattle.tenant_core.specs.declared.journal.Entry.TheVariants.{Decide, Answer, Tick, Change, Roll}
use Rattle.tenant_core.specs.declared.terms.BucketTerms.{BucketTerms}
use Rattle.tenant_core.specs.declared.terms.PeerLimits.{PeerLimits}
use Rattle.tenant_core.specs.declared.terms.PeerTerms.{PeerTerms}
use Rattle.tenant_core.specs.declared.terms.RateTerms.{RateTerms}

-- what was read, and the words after it
pub record ReadPart (V : Type 0) : Type 0 where
  pub value : V
  pub rest : List (List ℕ)

abbrev pub read_part : {V : Type 0} → V → List (List ℕ) → ReadPart V
read_part v words = record { value = v; rest = words }

-- that was read, if anything was, and those words are left
abbrev pub IsReadOff : {V : Type 0} → Option V → List (List ℕ) → Option (ReadPart V) → Type 0
IsReadOff None left read = read ≡ None
IsReadOff (Some v) left read = read ≡ Some (read_part v left)

-- ---- lines

-- the parts of a text before, between and after its line feeds
unfoldable pub text_lines : List ℕ → List (List ℕ)
text_lines text = slice_split (λ b. b == 10) text

-- the first line, which a line feed ends
abbrev pub line_read : List (List ℕ) → Option (ReadPart (List ℕ))
line_read (line ∷ next ∷ others) = Some (read_part line (next ∷ others))
line_read _ = None

-- ---- words

-- the greatest number of 64 bits
abbrev pub max_number : ℕ
max_number = 2 ^ 64 - 1

-- the text, if it passes the test
abbrev pub passed : (List ℕ → Bool) → List ℕ → Option (List ℕ)
passed test text = if test text then Some text else None

-- the first word
abbrev pub word_read : List (List ℕ) → Option (ReadPart (List ℕ))
word_read [] = None
word_read (w ∷ words) = Some (read_part w words)

-- a number within limits
unfoldable pub number_read : ℕ → ℕ → List (List ℕ) → Option (ReadPart ℕ)
number_read low high words = do
  w ← word_read words
  n ← result_ok (number_in low high w.value)
  Some (read_part n w.rest)

-- the number of a peer
abbrev pub peer_number_read : List (List ℕ) → Option (ReadPart ℕ)
peer_number_read words = number_read 0 65_535 words

-- 32 bytes in hexadecimal digits
unfoldable pub hash_read : List (List ℕ) → Option (ReadPart (List ℕ))
hash_read words = do
  w ← word_read words
  bytes ← result_ok (decode_sized w.value 32)
  Some (read_part bytes w.rest)

-- ---- what is agreed with peers

-- where nobody is asked, in the place of a target, which no statement has
abbrev pub nowhere : Parts
nowhere =
    record {
      url = codes "http://127.0.0.1/";
      token = codes "none";
      host = V4 (record { octets = 127 ∷ 0 ∷ 0 ∷ 1 ∷ [] });
      port = 80;
    }

-- what is agreed with the peer of that number, by what a statement says of it
abbrev pub stated_terms : ℕ → List ℕ → Role → List ℕ → ℕ → PeerLimits → BucketTerms → PeerTerms
stated_terms n name role asset scale limits bucket =
    record {
      name = name;
      role = role;
      token = decimal n;
      target = nowhere;
      asset = asset;
      scale = scale;
      limits = limits;
      bucket = bucket;
    }

-- the role that a word names
abbrev pub role_spelled : List ℕ → Option Role
role_spelled w =
    if bytes_eq w (codes "child") then Some Child else (if bytes_eq w (codes "peer") then Some Equal else None)

unfoldable pub limits_read : List (List ℕ) → Option (ReadPart PeerLimits)
limits_read words = do
  cap ← number_read 0 max_money words
  ceiling ← number_read 0 max_money cap.rest
  credit ← number_read 0 max_money ceiling.rest
  Some (read_part (record { cap = cap.value; ceiling = ceiling.value; credit = credit.value }) credit.rest)

unfoldable pub bucket_read : List (List ℕ) → Option (ReadPart BucketTerms)
bucket_read words = do
  burst ← number_read 1 max_burst words
  per_second ← number_read 0 max_per_second burst.rest
  Some (read_part (record { burst = burst.value; per_second = per_second.value }) per_second.rest)

-- what is agreed with the peer of that number
unfoldable pub terms_read : ℕ → List (List ℕ) → Option (ReadPart PeerTerms)
terms_read n words = do
  first ← word_read words
  name ← passed is_name first.value
  second ← word_read first.rest
  role ← role_spelled second.value
  third ← word_read second.rest
  asset ← passed is_asset_code third.value
  scale ← number_read 0 255 third.rest
  limits ← limits_read scale.rest
  bucket ← bucket_read limits.rest
  Some (read_part (stated_terms n name role asset scale.value limits.value bucket.value) bucket.rest)

-- the prefix that a word spells: a star is the empty one
unfoldable pub prefix_spelled : List ℕ → Option (List ℕ)
prefix_spelled w = result_ok (prefix_at (if bytes_eq w (codes "*") then [] else w))

unfoldable pub hop_read : List (List ℕ) → Option (ReadPart Hop)
hop_read words = do
  peer ← peer_number_read words
  fee ← number_read 0 max_money peer.rest
  Some (read_part (record { peer = peer.value; fee = fee.value }) fee.rest)

unfoldable pub rate_read : List (List ℕ) → Option (ReadPart RateTerms)
rate_read words = do
  from ← peer_number_read words
  to ← peer_number_read from.rest
  numerator ← number_read 0 max_number to.rest
  denominator ← number_read 0 max_number numerator.rest
  rate ← result_ok (rate_at numerator.value denominator.value)
  Some (read_part (record { from = from.value; to = to.value; rate = rate }) denominator.rest)

-- ---- entries

-- a Prepare that came at that moment
unfoldable pub decide_read : ℕ → List (List ℕ) → Option Entry
decide_read now words = do
  peer ← peer_number_read words
  amount ← number_read 0 max_number peer.rest
  expiry ← number_read 0 max_number amount.rest
  condition ← hash_read expiry.rest
  destination ← word_read condition.rest
  Some (Decide (record {
    peer = peer.value;
    amount = amount.value;
    expiry = expiry.value;
    condition = condition.value;
    destination = destination.value;
    now = now;
  }))

-- what came back at that moment: a fulfillment; something else
unfoldable pub fulfill_read : ℕ → List (List ℕ) → Option Entry
fulfill_read now words = do
  hold ← number_read 0 max_number words
  fulfillment ← hash_read hold.rest
  Some (Answer (record { hold = hold.value; now = now; key = Fulfilled fulfillment.value }))

unfoldable pub answer_read : AnswerKey → ℕ → List (List ℕ) → Option Entry
answer_read key now words = do
  hold ← number_read 0 max_number words
  Some (Answer (record { hold = hold.value; now = now; key = key }))

-- a change of a peer that is there
unfoldable pub peer_change_read : List ℕ → List (List ℕ) → Option Changed
peer_change_read verb words = do
  peer ← peer_number_read words
  if bytes_eq verb (codes "remove") then Some (PeerRemoved peer.value)
      else (if bytes_eq verb (codes "limits")
      then option_map (λ limits. LimitsSet peer.value limits.value) (limits_read peer.rest)
      else option_map (λ bucket. BucketSet peer.value bucket.value) (bucket_read peer.rest))

-- a change of the peers, of which the next one gets that number
unfoldable pub peers_change_read : ℕ → List (List ℕ) → Option Changed
peers_change_read n words = do
  verb ← word_read words
  if bytes_eq verb.value (codes "add") then option_map (λ terms. PeerAdded terms.value) (terms_read n verb.rest)
      else peer_change_read verb.value verb.rest

unfoldable pub route_change_read : List (List ℕ) → Option Changed
route_change_read words = do
  verb ← word_read words
  word ← word_read verb.rest
  prefix ← prefix_spelled word.value
  if bytes_eq verb.value (codes "remove") then Some (RouteRemoved prefix)
      else option_map (λ hop. RouteAdded prefix hop.value) (hop_read word.rest)

unfoldable pub rate_change_read : List (List ℕ) → Option Changed
rate_change_read words = do
  verb ← word_read words
  rate ← rate_read verb.rest
  Some (RateSet rate.value)

abbrev pub side_named : List ℕ → Side
side_named verb = if bytes_eq verb (codes "in") then In else Out

unfoldable pub settle_change_read : List (List ℕ) → Option Changed
settle_change_read words = do
  verb ← word_read words
  peer ← peer_number_read verb.rest
  amount ← number_read 1 max_money peer.rest
  Some (Settled peer.value (side_named verb.value) amount.value)

-- the change after a verb
unfoldable pub change_read : ℕ → List ℕ → List (List ℕ) → Option Changed
change_read n verb words =
    if bytes_eq verb (codes "peer") then peers_change_read n words
    else (if bytes_eq verb (codes "route") then route_change_read words
    else (if bytes_eq verb (codes "rate") then rate_change_read words
    else (if bytes_eq verb (codes "settle") then settle_change_read words else None)))

-- what happened at that moment, after a verb
unfoldable pub happened_read : ℕ → ℕ → List ℕ → List (List ℕ) → Option Entry
happened_read n now verb words =
    if bytes_eq verb (codes "prepare") then decide_read now words
    else (if bytes_eq verb (codes "fulfill") then fulfill_read now words
    else (if bytes_eq verb (codes "reject") then answer_read Rejected now words
    else (if bytes_eq verb (codes "fault") then answer_read Fault now words
    else (if bytes_eq verb (codes "tick") then Some (Tick (record { now = now }))
    else (if bytes_eq verb (codes "roll") then Some (Roll (record { now = now }))
    else option_map (λ c. Change (record { change = c; now = now })) (change_read n verb words))))))

-- the entry that words tell, where the next peer that is added gets that number
unfoldable pub entry_read : ℕ → List (List ℕ) → Option Entry
entry_read n words = do
  now ← number_read 0 max_number words
  verb ← word_read now.rest
  happened_read n now.value verb.value verb.rest
