-- The lines of an opening are read as what they tell.
use Rattle.std.proofs.Common.{◌≡◌, ℕ, ◌<◌, ◌≤◌, suc, true, ◌&&◌, not, leb, List, [], ◌∷◌, ◌++◌, length, Ok, Err, Some, refl, ap, ◌∙◌, arith}
use Rattle.std.specs.Fmt.{decimal, signed_decimal}
use Rattle.std.specs.List.{list_all}
use Rattle.std.specs.Prelude.{Option, Result, ℤ, pos, negsuc, is_ok, codes, option_and_then}
use Rattle.std.proofs.lemmas.Bool.{and_parts, leb-true, ne_eqb}
use Rattle.std.proofs.lemmas.Fmt.{decimal_nonempty}
use Rattle.common_types.specs.Numerals.{NumeralLaws, is_digit}
use Rattle.ilp_addr.specs.Address.{IsAddress, address_at}
use Rattle.ilp_addr.specs.Laws.{AddressLaws, PrefixWordLaws}
use Rattle.ilp_addr.specs.OwnAddress.{is_own_address, is_for_neighbors, max_own_address}
use Rattle.money_core.specs.Account.{max_money}
use Rattle.route_table.specs.declared.route.Route.{Route}
use Rattle.statements.specs.ReadBack.{AreNumbersWritable, IsOwnWritable, IsPeerWritable, IsRate, IsReadAs, IsRouteWritable, after_verb, is_word, stated_peer, stated_start, stated_tenant}
use Rattle.statements.specs.ReadOpening.{amount_spelled, balance_if_within, balance_spelled, peer_read, route_read, start_read, tenant_read}
use Rattle.statements.specs.Reading.{max_number, rate_read, read_part}
use Rattle.statements.specs.Statement.{hop_words, line, peer_line, peer_words, period_line, period_words, rate_line, rate_words, route_line, spaced, tenant_line, tenant_words, terms_words}
use Rattle.statements.proofs.LinesBack.{line_back, words_back}
use Rattle.statements.proofs.ReadBack.{hop_back, prefix_back, rate_back, terms_back, up_to_back, within}
use Rattle.statements.proofs.RecordsBack.{are_words, both, number_word, peer_number_word, rate_are_words, terms_are_words}
use Rattle.statements.proofs.WordBytes.{address_is_word, name_is_word, numeral_is_word, prefix_is_word}
use Rattle.tenant_core.specs.Terms.{is_balance_within}
use Rattle.tenant_core.specs.declared.opening.Opening.{Opening}
use Rattle.tenant_core.specs.declared.peer.Peer.{Peer}
use Rattle.tenant_core.specs.declared.terms.RateTerms.{RateTerms}

-- a line is read as its words are
as_words : {V : Type 0} (read : List (List ℕ) → Option V) (first : List ℕ) (others : List (List ℕ)) (v : V) → is_word first ≡ true
    → are_words others ≡ true → read (first ∷ others) ≡ Some v → IsReadAs read (line first others) v
as_words read first others v one all is text =
    (first ++ spaced others, line_back first others text one all, ap read (words_back first others one all) ∙ is)

-- ---- the tenant's own terms

tenant_back : NumeralLaws → (o : Opening) → IsOwnWritable o → tenant_read (codes "tenant" ∷ tenant_words o) ≡ Some (stated_tenant o)
unfolding tenant_read tenant_words
tenant_back laws o h =
    rw (
      up_to_back laws max_number o.tenant (o.name ∷ o.address ∷ decimal o.journal ∷ decimal o.margin ∷ decimal o.hold ∷ []) (omega arith) h.tenant,
      h.name,
      h.address,
      up_to_back laws max_number o.journal (decimal o.margin ∷ decimal o.hold ∷ []) (omega arith) h.journal,
      up_to_back laws max_number o.margin (decimal o.hold ∷ []) (omega arith) h.margin,
      up_to_back laws max_number o.hold [] (omega arith) h.hold,
    ) refl

some_ok : {A E : Type 0} (r : Result A E) → is_ok r ≡ true → (a : A) × (r ≡ Ok a)
some_ok (Ok a) h = (a, refl)
some_ok (Err e) h = absurd cc

own_is_address : AddressLaws → (bytes : List ℕ) → is_own_address bytes ≡ true → IsAddress bytes
own_is_address laws bytes h =
    let k = and_parts (leb (length bytes) max_own_address && is_ok (address_at bytes)) (not (is_for_neighbors bytes)) h in
    let m = and_parts (leb (length bytes) max_own_address) (is_ok (address_at bytes)) k.0 in
    let a = some_ok (address_at bytes) m.1 in
    (laws.read_is_address bytes a.0 a.1).0

tenant_are_words : NumeralLaws → AddressLaws → (o : Opening) → IsOwnWritable o → are_words (tenant_words o) ≡ true
unfolding tenant_words
tenant_are_words laws addresses o h =
    rw (
      number_word laws o.tenant h.tenant,
      name_is_word o.name h.name,
      address_is_word o.address (own_is_address addresses o.address h.address),
      number_word laws o.journal h.journal,
      number_word laws o.margin h.margin,
      number_word laws o.hold h.hold,
    ) refl

pub tenant_line_back : NumeralLaws → AddressLaws → (o : Opening) → IsOwnWritable o → IsReadAs tenant_read (tenant_line o) (stated_tenant o)
unfolding tenant_line
tenant_line_back laws addresses o h =
    as_words tenant_read (codes "tenant") (tenant_words o) (stated_tenant o) refl (tenant_are_words laws addresses o h) (tenant_back laws o h)

-- ---- where the numbers begin

start_back : NumeralLaws → (o : Opening) → AreNumbersWritable o → start_read (codes "period" ∷ period_words o) ≡ Some (stated_start o)
unfolding start_read period_words
start_back laws o h =
    rw (
      up_to_back laws max_number o.period (decimal o.clock ∷ decimal o.next_hold ∷ decimal o.network.next_peer ∷ []) (omega arith) h.period,
      up_to_back laws max_number o.clock (decimal o.next_hold ∷ decimal o.network.next_peer ∷ []) (omega arith) h.clock,
      up_to_back laws max_number o.next_hold (decimal o.network.next_peer ∷ []) (omega arith) h.next_hold,
      up_to_back laws 65_535 o.network.next_peer [] (omega arith) h.next_peer,
    ) refl

start_are_words : NumeralLaws → (o : Opening) → AreNumbersWritable o → are_words (period_words o) ≡ true
unfolding period_words
start_are_words laws o h =
    rw (
      number_word laws o.period h.period,
      number_word laws o.clock h.clock,
      number_word laws o.next_hold h.next_hold,
      peer_number_word laws o.network.next_peer h.next_peer,
    ) refl

pub start_line_back : NumeralLaws → (o : Opening) → AreNumbersWritable o → IsReadAs start_read (period_line o) (stated_start o)
unfolding period_line
start_line_back laws o h =
    as_words start_read (codes "period") (period_words o) (stated_start o) refl (start_are_words laws o h) (start_back laws o h)

-- ---- peers

amount_back : NumeralLaws → (n : ℕ) → n ≤ max_money → amount_spelled (decimal n) ≡ Some n
amount_back laws n h = rw (laws.numeral_is_read 0 max_money n (omega arith) (within max_money n h)) refl

of_digits : (word : List ℕ) → list_all is_digit word ≡ true → 0 < length word
    → balance_spelled word ≡ option_and_then (λ n. balance_if_within (pos n)) (amount_spelled word)
unfolding balance_spelled
of_digits [] digits some = absurd (omega (arith, some))
of_digits (b ∷ bytes) digits some =
    let k = and_parts (is_digit b) (list_all is_digit bytes) digits in
    let m = and_parts (leb 48 b) (leb b 57) k.0 in
    rw (ne_eqb b 45 (λ e. omega (arith, e, leb-true 48 b m.0))) refl

pub balance_back : NumeralLaws → (z : ℤ) → is_balance_within z ≡ true → balance_spelled (signed_decimal z) ≡ Some z
unfolding balance_spelled
balance_back laws (pos n) h =
    let small : n ≤ max_money = leb-true n max_money h in
    of_digits (decimal n) (laws.numeral_has_digits n (omega (arith, small))) (decimal_nonempty n (omega (arith, small)))
    ∙ rw (amount_back laws n small, h) refl
balance_back laws (negsuc n) h =
    let small : suc n ≤ max_money = leb-true (suc n) max_money h in
    rw (amount_back laws (suc n) small, h) refl

balance_is_word : NumeralLaws → (z : ℤ) → is_balance_within z ≡ true → is_word (signed_decimal z) ≡ true
balance_is_word laws (pos n) h = numeral_is_word laws n (omega (arith, leb-true n max_money h))
balance_is_word laws (negsuc n) h = numeral_is_word laws (suc n) (omega (arith, leb-true (suc n) max_money h))

peer_back : NumeralLaws → (p : Peer) → IsPeerWritable p → peer_read (peer_words p) ≡ Some (stated_peer p)
unfolding peer_read peer_words
peer_back laws p h =
    let behind = signed_decimal p.balance ∷ decimal p.bucket.credit ∷ [] in
    rw (
      up_to_back laws 65_535 p.number (terms_words p.terms ++ behind) (omega arith) h.number,
      terms_back laws p.number p.terms behind h.terms,
      balance_back laws p.balance h.balance,
      up_to_back laws max_number p.bucket.credit [] (omega arith) h.credit,
    ) refl

peer_are_words : NumeralLaws → (p : Peer) → IsPeerWritable p → are_words (peer_words p) ≡ true
unfolding peer_words
peer_are_words laws p h =
    both (decimal p.number ∷ [] ++ terms_words p.terms) (signed_decimal p.balance ∷ decimal p.bucket.credit ∷ [])
    (both (decimal p.number ∷ []) (terms_words p.terms) (rw (peer_number_word laws p.number h.number) refl) (terms_are_words laws p.terms h.terms))
    (rw (balance_is_word laws p.balance h.balance, number_word laws p.bucket.credit h.credit) refl)

pub peer_line_back : NumeralLaws → (p : Peer) → IsPeerWritable p → IsReadAs (after_verb peer_read) (peer_line p) (stated_peer p)
unfolding peer_line
peer_line_back laws p h =
    as_words (after_verb peer_read) (codes "peer") (peer_words p) (stated_peer p) refl (peer_are_words laws p h) (peer_back laws p h)

-- ---- routes and rates

route_back : NumeralLaws → PrefixWordLaws → (r : Route) → IsRouteWritable r → route_read (hop_words r.prefix r.hop.peer r.hop.fee) ≡ Some r
unfolding route_read
route_back nums prefixes r h = rw (prefix_back prefixes r.prefix h.prefix, hop_back nums r.hop [] h.hop) refl

pub route_line_back : NumeralLaws → PrefixWordLaws → (r : Route) → IsRouteWritable r → IsReadAs (after_verb route_read) (route_line r) r
unfolding route_line
route_line_back nums prefixes r h =
    as_words (after_verb route_read) (codes "route") (hop_words r.prefix r.hop.peer r.hop.fee) r refl
    (rw (
      prefix_is_word r.prefix h.prefix,
      peer_number_word nums r.hop.peer h.hop.peer,
      numeral_is_word nums r.hop.fee (omega (arith, h.hop.fee)),
    ) refl)
    (route_back nums prefixes r h)

pub rate_line_back : NumeralLaws → (r : RateTerms) → IsRate r → IsReadAs (after_verb rate_read) (rate_line r) (read_part r [])
unfolding rate_line
rate_line_back laws r h =
    as_words (after_verb rate_read) (codes "rate") (rate_words r) (read_part r []) refl (rate_are_words laws r h) (rate_back laws r [] h)
