-- The line of a record is read as its entry.
use Rattle.std.proofs.Common.{◌≡◌, ℕ, ◌<◌, ◌^◌, Bool, true, ◌&&◌, leb, List, [], ◌∷◌, ◌++◌, refl, ap, ◌∙◌, arith}
use Rattle.std.specs.Fmt.{decimal}
use Rattle.std.specs.List.{list_all}
use Rattle.std.specs.Prelude.{Some, None, codes}
use Rattle.std.proofs.lemmas.Bool.{and_parts, leb-true}
use Rattle.std.proofs.lemmas.List.Folds.{list_all-append}
use Rattle.common_types.specs.Numbers.{is_between}
use Rattle.common_types.specs.Numerals.{NumeralLaws}
use Rattle.ildcp_core.specs.declared.child.Role.{Role}
use Rattle.ildcp_core.specs.declared.child.Role.TheVariants.{Child, Peer as Equal}
use Rattle.ilp_addr.specs.Laws.{PrefixWordLaws}
use Rattle.money_core.specs.Account.{max_money}
use Rattle.statements.specs.ReadBack.{AreWritable, IsChange, IsEntry, IsKey, IsNumber, IsOutcome, IsPeerNumber, IsRate, IsReadAs, IsWritable, IsVerdict, hidden_entry, is_word}
use Rattle.statements.specs.Reading.{entry_read}
use Rattle.statements.specs.Statement.{answer_words, bucket_words, change_parts, change_verb, decide_words, entry_words, limits_words, outcome_words, rate_words, record_line, role_word, spaced, terms_words, verdict_words}
use Rattle.statements.proofs.EntryBack.{entry_back}
use Rattle.statements.proofs.LinesBack.{line_back, words_back}
use Rattle.statements.proofs.WordBytes.{address_is_word, asset_is_word, hex_is_word, name_is_word, numeral_is_word, prefix_is_word}
use Rattle.tenant_core.specs.Codes.{code_of}
use Rattle.tenant_core.specs.Limits.{max_burst, max_per_second}
use Rattle.tenant_core.specs.State.{entered_at}
use Rattle.tenant_core.specs.Terms.{are_limits_within, is_bucket_within}
use Rattle.tenant_core.specs.declared.command.Side.TheVariants.{In, Out}
use Rattle.tenant_core.specs.declared.journal.AnswerKey.{AnswerKey}
use Rattle.tenant_core.specs.declared.journal.AnswerKey.TheVariants.{Fulfilled, Rejected, Fault}
use Rattle.tenant_core.specs.declared.journal.Change.{Change as Changed}
use Rattle.tenant_core.specs.declared.journal.Change.TheVariants.{PeerAdded, PeerRemoved, LimitsSet, BucketSet}
use Rattle.tenant_core.specs.declared.journal.Change.TheVariants.{RouteAdded, RouteRemoved, RateSet, Settled}
use Rattle.tenant_core.specs.declared.journal.Entry.{Entry}
use Rattle.tenant_core.specs.declared.journal.Entry.TheVariants.{Decide, Answer, Tick, Change, Roll}
use Rattle.tenant_core.specs.declared.journal.Outcome.{Outcome}
use Rattle.tenant_core.specs.declared.journal.Outcome.TheVariants.{Packet, Ticked, Done, Rolled}
use Rattle.tenant_core.specs.declared.journal.Record.{Record}
use Rattle.tenant_core.specs.declared.terms.BucketTerms.{BucketTerms}
use Rattle.tenant_core.specs.declared.terms.PeerLimits.{PeerLimits}
use Rattle.tenant_core.specs.declared.terms.PeerTerms.{PeerTerms}
use Rattle.tenant_core.specs.declared.terms.RateTerms.{RateTerms}
use Rattle.tenant_core.specs.declared.verdict.RejectCode.{RejectCode}
use Rattle.tenant_core.specs.declared.verdict.RejectCode.TheVariants.{BadRequest, Unreachable, InvalidAmount}
use Rattle.tenant_core.specs.declared.verdict.RejectCode.TheVariants.{WrongCondition, AmountTooLarge, PeerUnreachable}
use Rattle.tenant_core.specs.declared.verdict.RejectCode.TheVariants.{Busy, InsufficientLiquidity, RateLimited}
use Rattle.tenant_core.specs.declared.verdict.RejectCode.TheVariants.{TimedOut, InsufficientSource, InsufficientTimeout}
use Rattle.tenant_core.specs.declared.verdict.Verdict.{Verdict}
use Rattle.tenant_core.specs.declared.verdict.Verdict.TheVariants.{Unknown, NoRoom, Refuse, Fulfil, Forward, Relay}

-- the words are words
abbrev pub are_words : List (List ℕ) → Bool
are_words words = list_all is_word words

pub both : (xs ys : List (List ℕ)) → are_words xs ≡ true → are_words ys ≡ true → are_words (xs ++ ys) ≡ true
both xs ys a b = list_all-append is_word xs ys ∙ rw (a, b) refl

-- a number of at most 64 bits
pub number_word : NumeralLaws → (n : ℕ) → IsNumber n → is_word (decimal n) ≡ true
number_word laws n h = numeral_is_word laws n (omega (arith, h))

below_word : NumeralLaws → (high n : ℕ) → high < 2 ^ 64 → leb n high ≡ true → is_word (decimal n) ≡ true
below_word laws high n small h = numeral_is_word laws n (omega (arith, leb-true n high h))

pub peer_number_word : NumeralLaws → (n : ℕ) → IsPeerNumber n → is_word (decimal n) ≡ true
peer_number_word laws n h = numeral_is_word laws n (omega (arith, h))

limits_are_words : NumeralLaws → (l : PeerLimits) → are_limits_within l ≡ true → are_words (limits_words l) ≡ true
unfolding limits_words
limits_are_words laws l h =
    let k = and_parts (leb l.cap max_money && leb l.ceiling max_money) (leb l.credit max_money) h in
    let m = and_parts (leb l.cap max_money) (leb l.ceiling max_money) k.0 in
    rw (
      below_word laws max_money l.cap (omega arith) m.0,
      below_word laws max_money l.ceiling (omega arith) m.1,
      below_word laws max_money l.credit (omega arith) k.1,
    ) refl

bucket_are_words : NumeralLaws → (b : BucketTerms) → is_bucket_within b ≡ true → are_words (bucket_words b) ≡ true
bucket_are_words laws b h =
    let k = and_parts (is_between 1 max_burst b.burst) (leb b.per_second max_per_second) h in
    let m = and_parts (leb 1 b.burst) (leb b.burst max_burst) k.0 in
    rw (
      below_word laws max_burst b.burst (omega arith) m.1,
      below_word laws max_per_second b.per_second (omega arith) k.1,
    ) refl

role_is_word : (r : Role) → is_word (role_word r) ≡ true
role_is_word Child = refl
role_is_word Equal = refl

pub terms_are_words : NumeralLaws → (t : PeerTerms) → AreWritable t → are_words (terms_words t) ≡ true
unfolding terms_words
terms_are_words laws t h =
    both (t.name ∷ role_word t.role ∷ t.asset ∷ decimal t.scale ∷ [] ++ limits_words t.limits) (bucket_words t.bucket)
    (both (t.name ∷ role_word t.role ∷ t.asset ∷ decimal t.scale ∷ []) (limits_words t.limits)
    (rw (name_is_word t.name h.name, role_is_word t.role, asset_is_word t.asset h.asset, numeral_is_word laws t.scale (omega (arith, h.scale))) refl)
    (limits_are_words laws t.limits h.limits))
    (bucket_are_words laws t.bucket h.bucket)

pub rate_are_words : NumeralLaws → (r : RateTerms) → IsRate r → are_words (rate_words r) ≡ true
rate_are_words laws r h =
    rw (
      peer_number_word laws r.from h.from,
      peer_number_word laws r.to h.to,
      numeral_is_word laws r.rate.numerator (omega (arith, h.rate.small_numerator)),
      numeral_is_word laws r.rate.denominator (omega (arith, h.rate.small_denominator)),
    ) refl

verb_are_words : (c : Changed) → are_words (change_verb c) ≡ true
unfolding change_verb
verb_are_words (PeerAdded t) = refl
verb_are_words (PeerRemoved n) = refl
verb_are_words (LimitsSet n limits) = refl
verb_are_words (BucketSet n bucket) = refl
verb_are_words (RouteAdded prefix hop) = refl
verb_are_words (RouteRemoved prefix) = refl
verb_are_words (RateSet r) = refl
verb_are_words (Settled n In amount) = refl
verb_are_words (Settled n Out amount) = refl

parts_are_words : NumeralLaws → (c : Changed) → IsChange c → are_words (change_parts c) ≡ true
parts_are_words laws (PeerAdded t) is = terms_are_words laws t is
parts_are_words laws (PeerRemoved n) is = rw (peer_number_word laws n is) refl
parts_are_words laws (LimitsSet n limits) is = rw (peer_number_word laws n is.0, limits_are_words laws limits is.1) refl
parts_are_words laws (BucketSet n bucket) is =
    both (decimal n ∷ []) (bucket_words bucket) (rw (peer_number_word laws n is.0) refl) (bucket_are_words laws bucket is.1)
parts_are_words laws (RouteAdded prefix hop) is =
    rw (prefix_is_word prefix is.0, peer_number_word laws hop.peer is.1.peer, numeral_is_word laws hop.fee (omega (arith, is.1.fee))) refl
parts_are_words laws (RouteRemoved prefix) is = rw (prefix_is_word prefix is) refl
parts_are_words laws (RateSet r) is = rate_are_words laws r is
parts_are_words laws (Settled n side amount) is =
    rw (peer_number_word laws n is.0, below_word laws max_money amount (omega arith) (and_parts (leb 1 amount) (leb amount max_money) is.1).1) refl

answer_are_words : NumeralLaws → (hold : ℕ) (key : AnswerKey) → IsNumber hold → IsKey key → are_words (answer_words hold key) ≡ true
answer_are_words laws hold (Fulfilled fulfillment) n is = rw (number_word laws hold n, hex_is_word fulfillment is.1) refl
answer_are_words laws hold Rejected n is = rw (number_word laws hold n) refl
answer_are_words laws hold Fault n is = rw (number_word laws hold n) refl

entry_are_words : NumeralLaws → (e : Entry) → IsEntry e → are_words (entry_words e) ≡ true
unfolding decide_words
entry_are_words laws (Decide d) is =
    rw (
      peer_number_word laws d.peer is.peer,
      number_word laws d.amount is.amount,
      number_word laws d.expiry is.expiry,
      hex_is_word d.condition is.condition.1,
      address_is_word d.destination is.destination,
    ) refl
entry_are_words laws (Answer a) is = answer_are_words laws a.hold a.key is.0 is.1
entry_are_words laws (Tick t) is = refl
entry_are_words laws (Change c) is =
    both (change_verb c.change) (change_parts c.change) (verb_are_words c.change) (parts_are_words laws c.change is)
entry_are_words laws (Roll r) is = refl

code_is_word : (code : RejectCode) → is_word (code_of code) ≡ true
code_is_word BadRequest = refl
code_is_word Unreachable = refl
code_is_word InvalidAmount = refl
code_is_word WrongCondition = refl
code_is_word AmountTooLarge = refl
code_is_word PeerUnreachable = refl
code_is_word Busy = refl
code_is_word InsufficientLiquidity = refl
code_is_word RateLimited = refl
code_is_word TimedOut = refl
code_is_word InsufficientSource = refl
code_is_word InsufficientTimeout = refl

verdict_are_words : NumeralLaws → (v : Verdict) → IsVerdict v → are_words (verdict_words v) ≡ true
unfolding verdict_words
verdict_are_words laws Unknown is = refl
verdict_are_words laws NoRoom is = refl
verdict_are_words laws (Refuse code None) is = rw (code_is_word code) refl
verdict_are_words laws (Refuse code (Some amounts)) is =
    rw (code_is_word code, number_word laws amounts.0 is.0, number_word laws amounts.1 is.1) refl
verdict_are_words laws Fulfil is = refl
verdict_are_words laws (Forward hold peer amount expiry) is =
    rw (number_word laws hold is.0, peer_number_word laws peer is.1, number_word laws amount is.2, number_word laws expiry is.3) refl
verdict_are_words laws Relay is = refl

outcome_are_words : NumeralLaws → (o : Outcome) → IsOutcome o → are_words (outcome_words o) ≡ true
outcome_are_words laws (Packet v) is = both (codes "=" ∷ []) (verdict_words v) refl (verdict_are_words laws v is)
outcome_are_words laws (Ticked count) is = rw (number_word laws count is) refl
outcome_are_words laws Done is = refl
outcome_are_words laws Rolled is = refl

pub record_back : NumeralLaws → PrefixWordLaws → (n : ℕ) (r : Record) → IsWritable r
    → IsReadAs (entry_read n) (record_line r) (hidden_entry n r.entry)
unfolding record_line
record_back nums prefixes n r is text =
    let first = decimal (entered_at r.entry) in
    let others = entry_words r.entry ++ outcome_words r.outcome in
    let one = number_word nums (entered_at r.entry) is.moment in
    let all = both (entry_words r.entry) (outcome_words r.outcome) (entry_are_words nums r.entry is.entry) (outcome_are_words nums r.outcome is.outcome) in (
      first ++ spaced others,
      line_back first others text one all,
      ap (entry_read n) (words_back first others one all) ∙ entry_back nums prefixes n r.entry (outcome_words r.outcome) is.moment is.entry,
    )
