-- A base is that of one list of tenants.
use Rattle.std.proofs.Common.{◌≡◌, ℕ, true, false, List, [], ◌∷◌, ◌++◌, map, append_assoc, refl, sym, ap, subst, ◌∙◌, arith}
use Rattle.std.specs.Fmt.{decimal}
use Rattle.std.specs.FinMap.{from_entries}
use Rattle.std.specs.List.{All, AllByRecursion, list_all}
use Rattle.std.proofs.lemmas.List.Elements.{recursion_from_All}
use Rattle.std.specs.Prelude.{codes}
use Rattle.std.proofs.lemmas.List.{append_cancel_left, append_cancel_right}
use Rattle.common_types.specs.Words.{words_of}
use Rattle.ilp_addr.specs.Target.{IsTarget}
use Rattle.route_table.specs.Listing.{entry_of}
use Rattle.route_table.specs.declared.route.Route.{Route}
use Rattle.sha2.specs.Sha256.{sha256}
use Rattle.statements.specs.ReadBack.{IsRate, IsRouteWritable, after_verb, is_word, stated_peer, stated_start, stated_tenant}
use Rattle.statements.specs.ReadOpening.{peer_read, route_read, start_read, tenant_read}
use Rattle.statements.specs.Reading.{ReadPart, rate_read, read_part, text_lines}
use Rattle.statements.specs.Statement.{AreRoutesOf, hop_words, peer_line, peer_words, period_line, period_words, rate_line, rate_words, route_line, tenant_line, tenant_words}
use Rattle.tenant_core.specs.State.{State}
use Rattle.tenant_core.specs.declared.peer.Peer.{Peer}
use Rattle.tenant_core.specs.declared.terms.PeerTerms.{PeerTerms}
use Rattle.tenant_core.specs.declared.terms.RateTerms.{RateTerms}
use Rattle.book_log.specs.Base.{AreStarts, IsBase, admins_of, base_version, start_text, states_of}
use Rattle.book_log.specs.Lines.{secrets_of}
use Rattle.book_log.specs.OneBase.{IsJournal, IsPeerStart, IsStart, OneBaseLaw}
use Rattle.book_log.specs.Sums.{sum_line}
use Rattle.book_log.specs.Written.{AreSecrets, IsTextWritten}
use Rattle.book_log.specs.declared.base.TenantStart.{TenantStart}
use Rattle.book_log.proofs.BaseLines.{AreLines, IsSaid, admin_text, all_pass, first_fails, first_part, heads, is_verb, one_value, peer_text, period_text, rate_text, route_text, said_by, secret_text, split_by, start_lines, start_lines_are, tenant_text, words_are_line, words_back}
use Rattle.book_log.proofs.Commits.{sum_is_line, sum_text}
use Rattle.book_log.proofs.LinesBack.{Laws, numeral_is_word, secrets_are_words, token_is_word}
use Rattle.book_log.proofs.Splits.{IsLine, one_text}

-- ---- what each line says

tenant_said : Laws → (s : TenantStart) → IsStart s → IsSaid tenant_read (tenant_text s.opening) (stated_tenant s.opening)
unfolding tenant_line
tenant_said laws s is =
    said_by tenant_read (codes "tenant") (tenant_words s.opening) (stated_tenant s.opening) (laws.statements.tenant_line s.opening is.own)

period_said : Laws → (s : TenantStart) → IsStart s → IsSaid start_read (period_text s.opening) (stated_start s.opening)
unfolding period_line
period_said laws s is =
    said_by start_read (codes "period") (period_words s.opening) (stated_start s.opening) (laws.statements.period_line s.opening is.numbers)

peer_said : Laws → (clock : ℕ) (p : Peer) → IsPeerStart clock p → IsSaid (after_verb peer_read) (peer_text p) (stated_peer p)
unfolding peer_line
peer_said laws clock p is =
    said_by (after_verb peer_read) (codes "peer") (peer_words p) (stated_peer p) (laws.statements.peer_line p is.stated)

route_said : Laws → (r : Route) → IsRouteWritable r → IsSaid (after_verb route_read) (route_text r) r
unfolding route_line
route_said laws r is =
    said_by (after_verb route_read) (codes "route") (hop_words r.prefix r.hop.peer r.hop.fee) r (laws.statements.route_line r is)

rate_said : Laws → (r : RateTerms) → IsRate r → IsSaid (after_verb rate_read) (rate_text r) (read_part r [])
unfolding rate_line
rate_said laws r is =
    said_by (after_verb rate_read) (codes "rate") (rate_words r) (read_part r []) (laws.statements.rate_line r is)

secret_words : Laws → (clock : ℕ) (p : Peer) → IsPeerStart clock p → list_all is_word (decimal p.number ∷ secrets_of p.terms) ≡ true
secret_words laws clock p is =
    rw (
      numeral_is_word laws.numerals p.number (let small = is.stated.number in omega (arith, small)),
      secrets_are_words p.terms is.secrets,
    ) refl

admin_words : (s : TenantStart) → IsStart s → list_all is_word (s.admin ∷ []) ≡ true
admin_words s is = rw (token_is_word s.admin is.admin) refl

-- what holds of each is a fact of each
each_by : {X : Type 0} (P Q : X → Type 0) → ((x : X) → P x → Q x) → (xs : List X) → AllByRecursion P xs → AllByRecursion Q xs
each_by P Q by [] all = tt
each_by P Q by (x ∷ xs) all = (by x all.0, each_by P Q by xs all.1)

each : {X : Type 0} (P Q : X → Type 0) → ((x : X) → P x → Q x) → (xs : List X) → All P xs → AllByRecursion Q xs
each P Q by xs all = each_by P Q by xs (recursion_from_All P xs all)

are_lines : Laws → (routes : List Route) (s : TenantStart) → IsStart s → All IsRouteWritable routes → AreLines routes s
are_lines laws routes s is written = record {
  secrets = each (IsPeerStart s.opening.clock) (λ p. IsLine (secret_text p))
      (λ p one. words_are_line (codes "secret") (decimal p.number ∷ secrets_of p.terms) refl (secret_words laws s.opening.clock p one)) s.opening.network.peers is.peers;
  admin = words_are_line (codes "admin") (s.admin ∷ []) refl (admin_words s is);
  tenant = (tenant_said laws s is).line;
  period = (period_said laws s is).line;
  peers = each (IsPeerStart s.opening.clock) (λ p. IsLine (peer_text p)) (λ p one. (peer_said laws s.opening.clock p one).line) s.opening.network.peers is.peers;
  routes_are = each IsRouteWritable (λ r. IsLine (route_text r)) (λ r one. (route_said laws r one).line) routes written;
  rates = each IsRate (λ r. IsLine (rate_text r)) (λ r one. (rate_said laws r one).line) s.opening.network.rates is.rates;
}

-- ---- lines of one text are of one value

one_token : (token other : List ℕ) → is_word token ≡ true → is_word other ≡ true → admin_text token ≡ admin_text other → token ≡ other
one_token token other one two same =
    let words : ◌≡◌ {A = List (List ℕ)} (codes "admin" ∷ token ∷ []) (codes "admin" ∷ other ∷ []) =
    sym (words_back (token ∷ []) (codes "admin") refl (rw one refl)) ∙ ap words_of same ∙ words_back (other ∷ []) (codes "admin") refl (rw two refl) in
    cc words

-- the words of two secrets
record AreSameSecrets (t u : PeerTerms) : Type 0 where
  pub token : t.token ≡ u.token
  pub url : t.target.url ≡ u.target.url
  pub other : t.target.token ≡ u.target.token

same_secrets : Laws → (clock : ℕ) (p q : Peer) → IsPeerStart clock p → IsPeerStart clock q → secret_text p ≡ secret_text q → AreSameSecrets p.terms q.terms
same_secrets laws clock p q one two same =
    let words : ◌≡◌ {A = List (List ℕ)} (codes "secret" ∷ decimal p.number ∷ secrets_of p.terms) (codes "secret" ∷ decimal q.number ∷ secrets_of q.terms) =
    sym (words_back (decimal p.number ∷ secrets_of p.terms) (codes "secret") refl (secret_words laws clock p one)) ∙ ap words_of same
    ∙ words_back (decimal q.number ∷ secrets_of q.terms) (codes "secret") refl (secret_words laws clock q two) in
    record { token = cc words; url = cc words; other = cc words }

same_target : Laws → (t u : PeerTerms) → AreSecrets t → AreSecrets u → AreSameSecrets t u → t.target ≡ u.target
same_target laws t u one two same =
    laws.targets.one_target u.target.url u.target.token t.target u.target
    (subst (λ (url : List ℕ). IsTarget url u.target.token t.target) same.url
    (subst (λ (token : List ℕ). IsTarget t.target.url token t.target) same.other one.target))
    two.target

one_peer : Laws → (clock : ℕ) (p q : Peer) → IsPeerStart clock p → IsPeerStart clock q → secret_text p ≡ secret_text q → peer_text p ≡ peer_text q → p ≡ q
one_peer laws clock p q one two secrets lines =
    let stated = one_value (after_verb peer_read) (peer_text p) (peer_text q) (stated_peer p) (stated_peer q) (peer_said laws clock p one) (peer_said laws clock q two) lines in
    let same = same_secrets laws clock p q one two secrets in
    let target = same_target laws p.terms q.terms one.secrets two.secrets same in
    let clocks = one.clock_is ∙ sym two.clock_is in
    let entries = one.entries ∙ sym two.entries in
    λ i. record {
      number = (stated i).number;
      terms = record (stated i).terms { token = same.token i; target = target i };
      balance = (stated i).balance;
      bucket = record { credit = (stated i).credit; clock = clocks i; entries = entries i };
    }

one_peers : Laws → (clock : ℕ) (ps qs : List Peer) → AllByRecursion (IsPeerStart clock) ps → AllByRecursion (IsPeerStart clock) qs
    → map secret_text ps ≡ map secret_text qs → map peer_text ps ≡ map peer_text qs → ps ≡ qs
one_peers laws clock [] [] one two secrets lines = refl
one_peers laws clock [] (q ∷ qs) one two secrets lines = absurd (cc lines)
one_peers laws clock (p ∷ ps) [] one two secrets lines = absurd (cc lines)
one_peers laws clock (p ∷ ps) (q ∷ qs) one two secrets lines =
    let s = heads (secret_text p) (secret_text q) (map secret_text ps) (map secret_text qs) secrets in
    let l = heads (peer_text p) (peer_text q) (map peer_text ps) (map peer_text qs) lines in
    let first = one_peer laws clock p q one.0 two.0 s.0 l.0 in
    let others = one_peers laws clock ps qs one.1 two.1 s.1 l.1 in
    λ i. first i ∷ others i

one_list : {X : Type 0} (text : X → List ℕ) (P : X → Type 0) → ((x y : X) → P x → P y → text x ≡ text y → x ≡ y) → (xs ys : List X)
    → AllByRecursion P xs → AllByRecursion P ys → map text xs ≡ map text ys → xs ≡ ys
one_list text P one [] [] here there same = refl
one_list text P one [] (y ∷ ys) here there same = absurd (cc same)
one_list text P one (x ∷ xs) [] here there same = absurd (cc same)
one_list text P one (x ∷ xs) (y ∷ ys) here there same =
    let h = heads (text x) (text y) (map text xs) (map text ys) same in
    let first = one x y here.0 there.0 h.0 in
    let others = one_list text P one xs ys here.1 there.1 h.1 in
    λ i. first i ∷ others i

one_route : Laws → (r q : Route) → IsRouteWritable r → IsRouteWritable q → route_text r ≡ route_text q → r ≡ q
one_route laws r q one two same =
    one_value (after_verb route_read) (route_text r) (route_text q) r q (route_said laws r one) (route_said laws q two) same

one_rate : Laws → (r q : RateTerms) → IsRate r → IsRate q → rate_text r ≡ rate_text q → r ≡ q
one_rate laws r q one two same =
    ap (λ (v : ReadPart RateTerms). v.value)
    (one_value (after_verb rate_read) (rate_text r) (rate_text q) (read_part r []) (read_part q []) (rate_said laws r one) (rate_said laws q two) same)

-- ---- a tenant

peer_verb : (p : Peer) → is_verb (codes "peer") (peer_text p) ≡ true
unfolding peer_words
peer_verb p = refl

-- no line of peers, routes or rates
record IsNoneOfNet (l : List ℕ) : Type 0 where
  pub peer : is_verb (codes "peer") l ≡ false
  pub route : is_verb (codes "route") l ≡ false
  pub rate : is_verb (codes "rate") l ≡ false

-- tenants of one text, and what is after them
record AreSame (s t : TenantStart) (rest others : List (List ℕ)) : Type 0 where
  pub start : s ≡ t
  pub rest_is : rest ≡ others

one_start : Laws → (routes others : List Route) (s t : TenantStart) (rest more : List (List ℕ)) → IsStart s → IsStart t
    → AreRoutesOf s.opening.network.routes routes → AreRoutesOf t.opening.network.routes others
    → All IsRouteWritable routes → All IsRouteWritable others
    → IsNoneOfNet (first_part rest) → IsNoneOfNet (first_part more)
    → start_lines routes s rest ≡ start_lines others t more → AreSame s t rest more
one_start laws routes others s t rest more one two listed other_listed writable other_writable ends other_ends same =
    let o = s.opening in
    let q = t.opening in
    let rates = map rate_text o.network.rates ++ rest in
    let other_rates = map rate_text q.network.rates ++ more in
    let lines = map route_text routes ++ rates in
    let other_lines = map route_text others ++ other_rates in
    let net = map peer_text o.network.peers ++ lines in
    let other_net = map peer_text q.network.peers ++ other_lines in
    let a = split_by (is_verb (codes "secret")) (map secret_text o.network.peers) (map secret_text q.network.peers)
    (admin_text s.admin ∷ tenant_text o ∷ period_text o ∷ net) (admin_text t.admin ∷ tenant_text q ∷ period_text q ∷ other_net)
    (all_pass (is_verb (codes "secret")) secret_text (λ p. refl) o.network.peers)
    (all_pass (is_verb (codes "secret")) secret_text (λ p. refl) q.network.peers) refl refl same in
    let b = heads (admin_text s.admin) (admin_text t.admin) (tenant_text o ∷ period_text o ∷ net) (tenant_text q ∷ period_text q ∷ other_net) a.1 in
    let c = heads (tenant_text o) (tenant_text q) (period_text o ∷ net) (period_text q ∷ other_net) b.1 in
    let d = heads (period_text o) (period_text q) net other_net c.1 in
    let no_peer = first_fails (is_verb (codes "peer")) route_text (λ r. refl) routes rates
    (first_fails (is_verb (codes "peer")) rate_text (λ r. refl) o.network.rates rest ends.peer) in
    let other_no_peer = first_fails (is_verb (codes "peer")) route_text (λ r. refl) others other_rates
    (first_fails (is_verb (codes "peer")) rate_text (λ r. refl) q.network.rates more other_ends.peer) in
    let e = split_by (is_verb (codes "peer")) (map peer_text o.network.peers) (map peer_text q.network.peers) lines other_lines
    (all_pass (is_verb (codes "peer")) peer_text peer_verb o.network.peers) (all_pass (is_verb (codes "peer")) peer_text peer_verb q.network.peers)
    no_peer other_no_peer d.1 in
    let f = split_by (is_verb (codes "route")) (map route_text routes) (map route_text others) rates other_rates
    (all_pass (is_verb (codes "route")) route_text (λ r. refl) routes) (all_pass (is_verb (codes "route")) route_text (λ r. refl) others)
    (first_fails (is_verb (codes "route")) rate_text (λ r. refl) o.network.rates rest ends.route)
    (first_fails (is_verb (codes "route")) rate_text (λ r. refl) q.network.rates more other_ends.route) e.1 in
    let g = split_by (is_verb (codes "rate")) (map rate_text o.network.rates) (map rate_text q.network.rates) rest more
    (all_pass (is_verb (codes "rate")) rate_text (λ r. refl) o.network.rates) (all_pass (is_verb (codes "rate")) rate_text (λ r. refl) q.network.rates)
    ends.rate other_ends.rate f.1 in
    let own = one_value tenant_read (tenant_text o) (tenant_text q) (stated_tenant o) (stated_tenant q) (tenant_said laws s one) (tenant_said laws t two) c.0 in
    let start = one_value start_read (period_text o) (period_text q) (stated_start o) (stated_start q) (period_said laws s one) (period_said laws t two) d.0 in
    let clocks : o.clock ≡ q.clock = λ i. (start i).clock in
    let peers = one_peers laws q.clock o.network.peers q.network.peers
    (recursion_from_All (IsPeerStart q.clock) o.network.peers (subst (λ (k : ℕ). All (IsPeerStart k) o.network.peers) clocks one.peers))
    (recursion_from_All (IsPeerStart q.clock) q.network.peers two.peers) a.0 e.0 in
    let same_routes = one_list route_text IsRouteWritable (one_route laws) routes others (recursion_from_All IsRouteWritable routes writable) (recursion_from_All IsRouteWritable others other_writable) f.0 in
    let maps : o.network.routes ≡ q.network.routes =
    sym listed ∙ ap (λ (rs : List Route). from_entries (map entry_of rs)) same_routes ∙ other_listed in
    let same_rates = one_list rate_text IsRate (one_rate laws) o.network.rates q.network.rates (recursion_from_All IsRate o.network.rates one.rates) (recursion_from_All IsRate q.network.rates two.rates) g.0 in
    let admins = one_token s.admin t.admin (token_is_word s.admin one.admin) (token_is_word t.admin two.admin) b.0 in
    record {
      start = λ i. record {
        opening = record {
          tenant = (own i).tenant;
          name = (own i).name;
          address = (own i).address;
          journal = (own i).journal;
          margin = (own i).margin;
          hold = (own i).hold;
          period = (start i).period;
          clock = (start i).clock;
          next_hold = (start i).next_hold;
          network = record { next_peer = (start i).next_peer; peers = peers i; routes = maps i; rates = same_rates i };
        };
        admin = admins i;
      };
      rest_is = g.1;
    }

-- ---- all tenants

-- the lines of a tenant, and what is after them
after_start : Laws → (s : TenantStart) (starts : List TenantStart) (text rest : List ℕ) → IsStart s → (are : AreStarts text (s ∷ starts))
    → text_lines (text ++ rest) ≡ start_lines are.0 s (text_lines (are.1 ++ rest))
after_start laws s starts text rest is are =
    ap (λ (t : List ℕ). text_lines (t ++ rest)) are.4 ∙ ap text_lines (append_assoc (start_text are.0 s) are.1 rest)
    ∙ start_lines_are are.0 s (are.1 ++ rest) (are_lines laws are.0 s is are.3)

-- the line of a sum
after_all : (sum : List ℕ) → text_lines (sum_line sum) ≡ sum_text sum ∷ text_lines []
unfolding sum_line
after_all sum = sum_is_line sum []

no_net : (p : List Peer) (token : List ℕ) (rest : List (List ℕ)) → IsNoneOfNet (first_part (map secret_text p ++ (admin_text token ∷ rest)))
no_net [] token rest = record { peer = refl; route = refl; rate = refl }
no_net (p ∷ ps) token rest = record { peer = refl; route = refl; rate = refl }

-- no tenant begins with a sum
no_sum : (p : List Peer) (token : List ℕ) (rest : List (List ℕ)) → is_verb (codes "sum") (first_part (map secret_text p ++ (admin_text token ∷ rest))) ≡ false
no_sum [] token rest = refl
no_sum (p ∷ ps) token rest = refl

none_of_net : Laws → (starts : List TenantStart) (text sum : List ℕ) → AllByRecursion IsStart starts → AreStarts text starts
    → IsNoneOfNet (first_part (text_lines (text ++ sum_line sum)))
none_of_net laws [] text sum all are =
    subst (λ (ls : List (List ℕ)). IsNoneOfNet (first_part ls)) (sym (ap (λ (t : List ℕ). text_lines (t ++ sum_line sum)) are ∙ after_all sum))
    (record { peer = refl; route = refl; rate = refl })
none_of_net laws (s ∷ starts) text sum all are =
    subst (λ (ls : List (List ℕ)). IsNoneOfNet (first_part ls)) (sym (after_start laws s starts text (sum_line sum) all.0 are))
    (no_net s.opening.network.peers s.admin _)

sum_first : (text sum : List ℕ) → text ≡ [] → is_verb (codes "sum") (first_part (text_lines (text ++ sum_line sum))) ≡ true
sum_first text sum none = rw (ap (λ (t : List ℕ). text_lines (t ++ sum_line sum)) none ∙ after_all sum) refl

start_first : Laws → (s : TenantStart) (starts : List TenantStart) (text sum : List ℕ) → IsStart s → AreStarts text (s ∷ starts)
    → is_verb (codes "sum") (first_part (text_lines (text ++ sum_line sum))) ≡ false
start_first laws s starts text sum is are =
    rw (after_start laws s starts text (sum_line sum) is are) (no_sum s.opening.network.peers s.admin _)

one_starts : Laws → (starts others : List TenantStart) (text other sum more : List ℕ) → AllByRecursion IsStart starts → AllByRecursion IsStart others
    → AreStarts text starts → AreStarts other others → text_lines (text ++ sum_line sum) ≡ text_lines (other ++ sum_line more)
    → (starts ≡ others) × (sum_line sum ≡ sum_line more)
one_starts laws [] [] text other sum more all both one two same = (
  refl,
  one_text (sum_line sum) (sum_line more)
      (ap (λ (t : List ℕ). text_lines (t ++ sum_line sum)) (sym one) ∙ same ∙ ap (λ (t : List ℕ). text_lines (t ++ sum_line more)) two),
)
one_starts laws [] (t ∷ others) text other sum more all both one two same =
    absurd (cc (sym (sum_first text sum one) ∙ ap (λ (ls : List (List ℕ)). is_verb (codes "sum") (first_part ls)) same ∙ start_first laws t others other more both.0 two))
one_starts laws (s ∷ starts) [] text other sum more all both one two same =
    absurd (cc (sym (sum_first other more two) ∙ ap (λ (ls : List (List ℕ)). is_verb (codes "sum") (first_part ls)) (sym same) ∙ start_first laws s starts text sum all.0 one))
one_starts laws (s ∷ starts) (t ∷ others) text other sum more all both one two same =
    let first = one_start laws one.0 two.0 s t (text_lines (one.1 ++ sum_line sum)) (text_lines (two.1 ++ sum_line more)) all.0 both.0
    one.2 two.2 one.3 two.3 (none_of_net laws starts one.1 sum all.1 one.5) (none_of_net laws others two.1 more both.1 two.5)
    (sym (after_start laws s starts text (sum_line sum) all.0 one) ∙ same ∙ after_start laws t others other (sum_line more) both.0 two) in
    let later = one_starts laws starts others one.1 two.1 sum more all.1 both.1 one.5 two.5 first.rest_is in
    ((λ i. first.start i ∷ later.0 i), later.1)

pub one_base : Laws → OneBaseLaw
one_base laws text starts others sum other all both one two =
    let whole : one.tenants ++ sum_line sum ≡ two.tenants ++ sum_line other =
    append_cancel_left base_version (one.tenants ++ sum_line sum) (two.tenants ++ sum_line other)
    (sym (append_assoc base_version one.tenants (sum_line sum)) ∙ sym one.written ∙ two.written ∙ append_assoc base_version two.tenants (sum_line other)) in
    let same = one_starts laws starts others one.tenants two.tenants sum other (recursion_from_All IsStart starts all)
    (recursion_from_All IsStart others both) one.are two.are (ap text_lines whole) in
    let tenants : one.tenants ≡ two.tenants =
    append_cancel_right one.tenants two.tenants (sum_line other) (ap (λ (t : List ℕ). one.tenants ++ t) (sym same.1) ∙ whole) in
    (same.0, one.sum_is ∙ ap (λ (t : List ℕ). sha256 (base_version ++ t)) tenants ∙ sym two.sum_is)

-- a journal that is written is one of the tenants that were read
pub record IsSameJournal (starts : List TenantStart) (first log : List ℕ) (begun books : List State) (admins : List (List ℕ)) : Type 0 where
  pub written : IsTextWritten first log begun books
  pub operators : admins_of starts ≡ admins

pub journal_of : OneBaseLaw → (base log : List ℕ) (books : List State) (admins : List (List ℕ)) (starts : List TenantStart) (first : List ℕ)
    → All IsStart starts → IsBase base starts first → (begun : List State) → begun ≡ states_of starts → IsJournal base log books admins
    → IsSameJournal starts first log begun books admins
journal_of law base log books admins starts first begin based begun is j =
    let same = law base j.starts starts j.first first j.begin begin j.based based in
    record {
      written = subst (λ (s : List State). IsTextWritten first log s books) (ap states_of same.0 ∙ sym is)
          (subst (λ (f : List ℕ). IsTextWritten f log (states_of j.starts) books) same.1 j.written);
      operators = sym (j.operators ∙ ap admins_of same.0);
    }
