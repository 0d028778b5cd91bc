-- An entry that is written is read back, whatever follows.
use Rattle.std.proofs.Common.{◌≡◌, ℕ, List, ◌∷◌, ◌++◌, Some, refl, arith}
use Rattle.std.specs.Fmt.{decimal}
use Rattle.std.specs.Prelude.{codes, Option, option_map, option_and_then}
use Rattle.common_types.specs.Numerals.{NumeralLaws}
use Rattle.hex.specs.Hex.{encode_lower}
use Rattle.ilp_addr.specs.Laws.{PrefixWordLaws}
use Rattle.money_core.specs.Account.{max_money}
use Rattle.statements.specs.ReadBack.{IsChange, IsEntry, IsKey, IsNumber, IsPacket, hidden_change, hidden_entry}
use Rattle.statements.specs.Reading.{answer_read, change_read, decide_read, entry_read, fulfill_read, happened_read, max_number}
use Rattle.statements.specs.Reading.{peer_change_read, peers_change_read, rate_change_read, route_change_read, settle_change_read, word_read}
use Rattle.statements.specs.Statement.{answer_words, change_parts, change_verb, change_words, decide_words, entry_words, bucket_words, limits_words}
use Rattle.statements.proofs.ReadBack.{bucket_back, hash_back, hop_back, limits_back, number_back, prefix_back, rate_back, terms_back, up_to_back}
use Rattle.tenant_core.specs.State.{entered_at}
use Rattle.tenant_core.specs.declared.command.Side.TheVariants.{In, Out}
use Rattle.tenant_core.specs.declared.journal.AnswerKey.{AnswerKey}
use Rattle.tenant_core.specs.declared.journal.AnswerKey.TheVariants.{Fulfilled, Rejected, Fault}
use Rattle.tenant_core.specs.declared.journal.Change.{Change as Changed}
use Rattle.tenant_core.specs.declared.journal.Change.TheVariants.{PeerAdded, PeerRemoved, LimitsSet, BucketSet}
use Rattle.tenant_core.specs.declared.journal.Change.TheVariants.{RouteAdded, RouteRemoved, RateSet, Settled}
use Rattle.tenant_core.specs.declared.journal.DecideEntry.{DecideEntry}
use Rattle.tenant_core.specs.declared.journal.Entry.{Entry}
use Rattle.tenant_core.specs.declared.journal.Entry.TheVariants.{Decide, Answer, Tick, Change, Roll}

-- the verb and what is behind it, of a change
abbrev first_verb : Changed → List ℕ
first_verb (PeerAdded t) = codes "peer"
first_verb (PeerRemoved n) = codes "peer"
first_verb (LimitsSet n limits) = codes "peer"
first_verb (BucketSet n bucket) = codes "peer"
first_verb (RouteAdded prefix hop) = codes "route"
first_verb (RouteRemoved prefix) = codes "route"
first_verb (RateSet r) = codes "rate"
first_verb (Settled n side amount) = codes "settle"

abbrev second_verb : Changed → List ℕ
second_verb (PeerAdded t) = codes "add"
second_verb (PeerRemoved n) = codes "remove"
second_verb (LimitsSet n limits) = codes "limits"
second_verb (BucketSet n bucket) = codes "bucket"
second_verb (RouteAdded prefix hop) = codes "add"
second_verb (RouteRemoved prefix) = codes "remove"
second_verb (RateSet r) = codes "set"
second_verb (Settled n In amount) = codes "in"
second_verb (Settled n Out amount) = codes "out"

change_back : NumeralLaws → PrefixWordLaws → (n : ℕ) (c : Changed) (rest : List (List ℕ)) → IsChange c
    → change_read n (first_verb c) (second_verb c ∷ change_parts c ++ rest) ≡ Some (hidden_change n c)
unfolding change_read peers_change_read peer_change_read route_change_read rate_change_read settle_change_read
change_back nums prefixes n (PeerAdded t) rest is = rw (terms_back nums n t rest is) refl
change_back nums prefixes n (PeerRemoved peer) rest is = rw (up_to_back nums 65_535 peer rest (omega arith) is) refl
change_back nums prefixes n (LimitsSet peer limits) rest is =
    rw (up_to_back nums 65_535 peer (limits_words limits ++ rest) (omega arith) is.0, limits_back nums limits rest is.1) refl
change_back nums prefixes n (BucketSet peer bucket) rest is =
    rw (up_to_back nums 65_535 peer (bucket_words bucket ++ rest) (omega arith) is.0, bucket_back nums bucket rest is.1) refl
change_back nums prefixes n (RouteAdded prefix hop) rest is =
    rw (prefix_back prefixes prefix is.0, hop_back nums hop rest is.1) refl
change_back nums prefixes n (RouteRemoved prefix) rest is = rw (prefix_back prefixes prefix is) refl
change_back nums prefixes n (RateSet r) rest is = rw (rate_back nums r rest is) refl
change_back nums prefixes n (Settled peer In amount) rest is =
    rw (up_to_back nums 65_535 peer (decimal amount ∷ rest) (omega arith) is.0, number_back nums 1 max_money amount rest (omega arith) is.1) refl
change_back nums prefixes n (Settled peer Out amount) rest is =
    rw (up_to_back nums 65_535 peer (decimal amount ∷ rest) (omega arith) is.0, number_back nums 1 max_money amount rest (omega arith) is.1) refl

words_split : (c : Changed) (rest : List (List ℕ)) → change_words c ++ rest ≡ first_verb c ∷ second_verb c ∷ change_parts c ++ rest
unfolding change_verb
words_split (PeerAdded t) rest = refl
words_split (PeerRemoved n) rest = refl
words_split (LimitsSet n limits) rest = refl
words_split (BucketSet n bucket) rest = refl
words_split (RouteAdded prefix hop) rest = refl
words_split (RouteRemoved prefix) rest = refl
words_split (RateSet r) rest = refl
words_split (Settled n In amount) rest = refl
words_split (Settled n Out amount) rest = refl

happened_change : (n now : ℕ) (c : Changed) (words : List (List ℕ))
    → happened_read n now (first_verb c) words
    ≡ option_map (λ x. Change (record { change = x; now = now })) (change_read n (first_verb c) words)
unfolding happened_read
happened_change n now (PeerAdded t) words = refl
happened_change n now (PeerRemoved peer) words = refl
happened_change n now (LimitsSet peer limits) words = refl
happened_change n now (BucketSet peer bucket) words = refl
happened_change n now (RouteAdded prefix hop) words = refl
happened_change n now (RouteRemoved prefix) words = refl
happened_change n now (RateSet r) words = refl
happened_change n now (Settled peer side amount) words = refl

-- what words tell behind the moment
abbrev behind_moment : ℕ → ℕ → List (List ℕ) → Option Entry
behind_moment n now words = option_and_then (λ verb. happened_read n now verb.value verb.rest) (word_read words)

answer_back : NumeralLaws → (n hold now : ℕ) (key : AnswerKey) (rest : List (List ℕ)) → IsNumber hold → IsKey key
    → behind_moment n now (answer_words hold key ++ rest) ≡ Some (Answer (record { hold = hold; now = now; key = key }))
unfolding happened_read fulfill_read answer_read
answer_back nums n hold now (Fulfilled fulfillment) rest small is =
    rw (up_to_back nums max_number hold (encode_lower fulfillment ∷ rest) (omega arith) small, hash_back fulfillment rest is) refl
answer_back nums n hold now Rejected rest small is = rw (up_to_back nums max_number hold rest (omega arith) small) refl
answer_back nums n hold now Fault rest small is = rw (up_to_back nums max_number hold rest (omega arith) small) refl

decide_back : NumeralLaws → (n : ℕ) (d : DecideEntry) (rest : List (List ℕ)) → IsPacket d
    → behind_moment n d.now (decide_words d ++ rest) ≡ Some (Decide d)
unfolding happened_read decide_read decide_words
decide_back nums n d rest is =
    rw (
      up_to_back nums 65_535 d.peer (decimal d.amount ∷ decimal d.expiry ∷ encode_lower d.condition ∷ d.destination ∷ rest) (omega arith) is.peer,
      up_to_back nums max_number d.amount (decimal d.expiry ∷ encode_lower d.condition ∷ d.destination ∷ rest) (omega arith) is.amount,
      up_to_back nums max_number d.expiry (encode_lower d.condition ∷ d.destination ∷ rest) (omega arith) is.expiry,
      hash_back d.condition (d.destination ∷ rest) is.condition,
    ) refl

happened_back : NumeralLaws → PrefixWordLaws → (n : ℕ) (e : Entry) (rest : List (List ℕ)) → IsEntry e
    → behind_moment n (entered_at e) (entry_words e ++ rest) ≡ Some (hidden_entry n e)
unfolding happened_read
happened_back nums prefixes n (Decide d) rest is = decide_back nums n d rest is
happened_back nums prefixes n (Answer a) rest is = answer_back nums n a.hold a.now a.key rest is.0 is.1
happened_back nums prefixes n (Tick t) rest is = refl
happened_back nums prefixes n (Change c) rest is =
    rw (
      words_split c.change rest,
      happened_change n c.now c.change (second_verb c.change ∷ change_parts c.change ++ rest),
      change_back nums prefixes n c.change rest is,
    ) refl
happened_back nums prefixes n (Roll r) rest is = refl

pub entry_back : NumeralLaws → PrefixWordLaws → (n : ℕ) (e : Entry) (rest : List (List ℕ)) → IsNumber (entered_at e) → IsEntry e
    → entry_read n (decimal (entered_at e) ∷ entry_words e ++ rest) ≡ Some (hidden_entry n e)
unfolding entry_read
entry_back nums prefixes n e rest at is =
    rw (up_to_back nums max_number (entered_at e) (entry_words e ++ rest) (omega arith) at)
    (happened_back nums prefixes n e rest is)
