-- The lines of a base, without their line feeds, and what they say.
use Rattle.std.proofs.Common.{◌≡◌, ℕ, ◌+◌, Bool, true, false, eqb, List, [], ◌∷◌, ◌++◌, length, take, map, Option, append_assoc, append-nil, refl, sym, ap, ◌∙◌, arith}
use Rattle.std.specs.Fmt.{decimal}
use Rattle.std.specs.List.{AllByRecursion, flat_map, list_all}
use Rattle.std.specs.Prelude.{Some, codes}
use Rattle.std.specs.Str.{bytes_eq}
use Rattle.std.proofs.lemmas.Bool.{and_parts}
use Rattle.std.proofs.lemmas.List.{append_cancel_right}
use Rattle.std.proofs.lemmas.List.Elements.{All-append}
use Rattle.std.proofs.lemmas.List.Splits.{slice_split_none}
use Rattle.std.proofs.lemmas.Option.{same_Some}
use Rattle.common_types.specs.Words.{words_of}
use Rattle.route_table.specs.declared.route.Route.{Route}
use Rattle.statements.specs.ReadBack.{IsReadAs, is_word}
use Rattle.statements.specs.Reading.{text_lines}
use Rattle.statements.specs.Statement.{hop_words, line, opening_text, peer_line, peer_words, period_line, period_words, rate_line, rate_words, route_line, spaced, tenant_line, tenant_words}
use Rattle.tenant_core.specs.declared.opening.Opening.{Opening}
use Rattle.tenant_core.specs.declared.peer.Peer.{Peer}
use Rattle.tenant_core.specs.declared.terms.RateTerms.{RateTerms}
use Rattle.book_log.specs.Base.{admin_line, secret_line, start_text}
use Rattle.book_log.specs.Lines.{secrets_of}
use Rattle.book_log.specs.declared.base.TenantStart.{TenantStart}
use Rattle.book_log.proofs.Splits.{IsLine, first_of, free_line, line_read_is, spaced_is_free, word_is_free, word_more}

-- a line, without its line feed
abbrev pub text_of : List ℕ → List (List ℕ) → List ℕ
text_of first others = first ++ spaced others

abbrev pub secret_text : Peer → List ℕ
secret_text p = text_of (codes "secret") (decimal p.number ∷ secrets_of p.terms)

abbrev pub admin_text : List ℕ → List ℕ
admin_text token = text_of (codes "admin") (token ∷ [])

abbrev pub tenant_text : Opening → List ℕ
tenant_text o = text_of (codes "tenant") (tenant_words o)

abbrev pub period_text : Opening → List ℕ
period_text o = text_of (codes "period") (period_words o)

abbrev pub peer_text : Peer → List ℕ
peer_text p = text_of (codes "peer") (peer_words p)

abbrev pub route_text : Route → List ℕ
route_text r = text_of (codes "route") (hop_words r.prefix r.hop.peer r.hop.fee)

abbrev pub rate_text : RateTerms → List ℕ
rate_text r = text_of (codes "rate") (rate_words r)

-- ---- words

pub words_back : (others : List (List ℕ)) (first : List ℕ) → is_word first ≡ true → list_all is_word others ≡ true
    → words_of (text_of first others) ≡ first ∷ others
words_back [] first one all =
    ap words_of (append-nil first) ∙ slice_split_none (λ b. eqb b 32) first (word_is_free 32 (omega arith) first one)
words_back (next ∷ others) first one all =
    let k = and_parts (is_word next) (list_all is_word others) all in
    word_more first (next ++ spaced others) one ∙ ap (λ (ws : List (List ℕ)). first ∷ ws) (words_back others next k.0 k.1)

pub words_are_line : (first : List ℕ) (others : List (List ℕ)) → is_word first ≡ true → list_all is_word others ≡ true → IsLine (text_of first others)
words_are_line first others one all text =
    free_line (text_of first others) text
    (All-append (λ b. eqb b 10 ≡ false) first (spaced others) (word_is_free 10 (omega arith) first one) (spaced_is_free others all))

-- a line that is read back
pub record IsSaid {V : Type 0} (read : List (List ℕ) → Option V) (text : List ℕ) (v : V) : Type 0 where
  pub line : IsLine text
  pub said : read (words_of text) ≡ Some v

pub said_by : {V : Type 0} (read : List (List ℕ) → Option V) (first : List ℕ) (others : List (List ℕ)) (v : V)
    → IsReadAs read (line first others) v → IsSaid read (text_of first others) v
said_by read first others v is =
    let whole = text_of first others in
    let parts : (text : List ℕ) → text_lines (line first others ++ text) ≡ (is text).0 ∷ text_lines text =
    λ text. line_read_is (text_lines (line first others ++ text)) (text_lines text) (is text).0 (is text).1 in
    let same : (text : List ℕ) → (is text).0 ≡ whole =
    λ text. append_cancel_right (is text).0 whole (10 ∷ text)
    (sym (first_of (line first others ++ text) (is text).0 text (parts text)) ∙ append_assoc whole (10 ∷ []) text) in
    record {
      line = λ text. ap text_lines (sym (append_assoc whole (10 ∷ []) text)) ∙ parts text ∙ ap (λ (l : List ℕ). l ∷ text_lines text) (same text);
      said = ap (λ (l : List ℕ). read (words_of l)) (sym (same [])) ∙ (is []).2;
    }

-- lines that are read back are those of one value
pub one_value : {V : Type 0} (read : List (List ℕ) → Option V) (text other : List ℕ) (v w : V) → IsSaid read text v → IsSaid read other w
    → text ≡ other → v ≡ w
one_value read text other v w one two same =
    same_Some v w (sym one.said ∙ ap (λ (t : List ℕ). read (words_of t)) same ∙ two.said)

-- ---- the lines of a tenant

-- the lines, and then others
abbrev pub start_lines : List Route → TenantStart → List (List ℕ) → List (List ℕ)
start_lines routes s rest =
    map secret_text s.opening.network.peers
    ++ (admin_text s.admin ∷ tenant_text s.opening ∷ period_text s.opening
    ∷ (map peer_text s.opening.network.peers ++ (map route_text routes ++ (map rate_text s.opening.network.rates ++ rest))))

pub one_more : (whole text rest : List ℕ) → whole ≡ text ++ 10 ∷ [] → IsLine text → text_lines (whole ++ rest) ≡ text ∷ text_lines rest
one_more whole text rest is are =
    ap (λ (t : List ℕ). text_lines (t ++ rest)) is ∙ ap text_lines (append_assoc text (10 ∷ []) rest) ∙ are rest

pub all_more : {X : Type 0} (whole text : X → List ℕ) → ((x : X) → whole x ≡ text x ++ 10 ∷ []) → (xs : List X) (rest : List ℕ)
    → AllByRecursion (λ x. IsLine (text x)) xs → text_lines (flat_map whole xs ++ rest) ≡ map text xs ++ text_lines rest
all_more whole text is [] rest are = refl
all_more whole text is (x ∷ xs) rest are =
    ap text_lines (append_assoc (whole x) (flat_map whole xs) rest)
    ∙ one_more (whole x) (text x) (flat_map whole xs ++ rest) (is x) are.0
    ∙ ap (λ (ls : List (List ℕ)). text x ∷ ls) (all_more whole text is xs rest are.1)

secret_is : (p : Peer) → secret_line p ≡ secret_text p ++ 10 ∷ []
unfolding secret_line
secret_is p = refl

admin_is : (token : List ℕ) → admin_line token ≡ admin_text token ++ 10 ∷ []
unfolding admin_line
admin_is token = refl

tenant_is : (o : Opening) → tenant_line o ≡ tenant_text o ++ 10 ∷ []
unfolding tenant_line
tenant_is o = refl

period_is : (o : Opening) → period_line o ≡ period_text o ++ 10 ∷ []
unfolding period_line
period_is o = refl

peer_is : (p : Peer) → peer_line p ≡ peer_text p ++ 10 ∷ []
unfolding peer_line
peer_is p = refl

route_is : (r : Route) → route_line r ≡ route_text r ++ 10 ∷ []
unfolding route_line
route_is r = refl

rate_is : (r : RateTerms) → rate_line r ≡ rate_text r ++ 10 ∷ []
unfolding rate_line
rate_is r = refl

-- each is one line
pub record AreLines (routes : List Route) (s : TenantStart) : Type 0 where
  pub secrets : AllByRecursion (λ p. IsLine (secret_text p)) s.opening.network.peers
  pub admin : IsLine (admin_text s.admin)
  pub tenant : IsLine (tenant_text s.opening)
  pub period : IsLine (period_text s.opening)
  pub peers : AllByRecursion (λ p. IsLine (peer_text p)) s.opening.network.peers
  pub routes_are : AllByRecursion (λ r. IsLine (route_text r)) routes
  pub rates : AllByRecursion (λ r. IsLine (rate_text r)) s.opening.network.rates

regrouped : (a b t p f r q rest : List ℕ) → a ++ b ++ (t ++ p ++ f ++ r ++ q) ++ rest ≡ a ++ (b ++ (t ++ (p ++ (f ++ (r ++ (q ++ rest))))))
regrouped a b t p f r q rest = simp append_assoc

pub start_lines_are : (routes : List Route) (s : TenantStart) (rest : List ℕ) → AreLines routes s
    → text_lines (start_text routes s ++ rest) ≡ start_lines routes s (text_lines rest)
unfolding start_text opening_text
start_lines_are routes s rest are =
    let o = s.opening in
    let n = o.network in
    let after_rates = flat_map rate_line n.rates ++ rest in
    let after_routes = flat_map route_line routes ++ after_rates in
    let after_peers = flat_map peer_line n.peers ++ after_routes in
    let after_period = period_line o ++ after_peers in
    let after_tenant = tenant_line o ++ after_period in
    ap text_lines (regrouped (flat_map secret_line n.peers) (admin_line s.admin) (tenant_line o) (period_line o) (flat_map peer_line n.peers)
    (flat_map route_line routes) (flat_map rate_line n.rates) rest)
    ∙ all_more secret_line secret_text secret_is n.peers (admin_line s.admin ++ after_tenant) are.secrets
    ∙ ap (λ (ls : List (List ℕ)). map secret_text n.peers ++ ls)
    (one_more (admin_line s.admin) (admin_text s.admin) after_tenant (admin_is s.admin) are.admin
    ∙ ap (λ (ls : List (List ℕ)). admin_text s.admin ∷ ls)
    (one_more (tenant_line o) (tenant_text o) after_period (tenant_is o) are.tenant
    ∙ ap (λ (ls : List (List ℕ)). tenant_text o ∷ ls)
    (one_more (period_line o) (period_text o) after_peers (period_is o) are.period
    ∙ ap (λ (ls : List (List ℕ)). period_text o ∷ ls)
    (all_more peer_line peer_text peer_is n.peers after_routes are.peers
    ∙ ap (λ (ls : List (List ℕ)). map peer_text n.peers ++ ls)
    (all_more route_line route_text route_is routes after_rates are.routes_are
    ∙ ap (λ (ls : List (List ℕ)). map route_text routes ++ ls)
    (all_more rate_line rate_text rate_is n.rates rest are.rates))))))

-- ---- which line it is

-- the line begins with that word
abbrev pub is_verb : List ℕ → List ℕ → Bool
is_verb verb text = bytes_eq (take (length verb + 1) text) (verb ++ 32 ∷ [])

-- the first of some lines; an empty one if there is none
abbrev pub first_part : List (List ℕ) → List ℕ
first_part [] = []
first_part (l ∷ ls) = l

tail_part : List (List ℕ) → List (List ℕ)
tail_part [] = []
tail_part (l ∷ ls) = ls

pub heads : (l m : List ℕ) (ls ms : List (List ℕ)) → ◌≡◌ {A = List (List ℕ)} (l ∷ ls) (m ∷ ms) → (l ≡ m) × (ls ≡ ms)
unfolding tail_part
heads l m ls ms same = (ap first_part same, ap tail_part same)

-- the lines up to the first that does not pass
pub split_by : (p : List ℕ → Bool) (xs ys us vs : List (List ℕ)) → AllByRecursion (λ l. p l ≡ true) xs → AllByRecursion (λ l. p l ≡ true) ys
    → p (first_part us) ≡ false → p (first_part vs) ≡ false → xs ++ us ≡ ys ++ vs → (xs ≡ ys) × (us ≡ vs)
split_by p [] [] us vs one two here there same = (refl, same)
split_by p [] (y ∷ ys) us vs one two here there same = absurd (cc (sym here ∙ ap (λ (ls : List (List ℕ)). p (first_part ls)) same ∙ two.0))
split_by p (x ∷ xs) [] us vs one two here there same = absurd (cc (sym there ∙ ap (λ (ls : List (List ℕ)). p (first_part ls)) (sym same) ∙ one.0))
split_by p (x ∷ xs) (y ∷ ys) us vs one two here there same =
    let first = heads x y (xs ++ us) (ys ++ vs) same in
    let later = split_by p xs ys us vs one.1 two.1 here there first.1 in
    ((λ i. first.0 i ∷ later.0 i), later.1)

pub all_pass : {X : Type 0} (p : List ℕ → Bool) (text : X → List ℕ) → ((x : X) → p (text x) ≡ true) → (xs : List X)
    → AllByRecursion (λ l. p l ≡ true) (map text xs)
all_pass p text is [] = tt
all_pass p text is (x ∷ xs) = (is x, all_pass p text is xs)

pub first_fails : {X : Type 0} (p : List ℕ → Bool) (text : X → List ℕ) → ((x : X) → p (text x) ≡ false) → (xs : List X) (rest : List (List ℕ))
    → p (first_part rest) ≡ false → p (first_part (map text xs ++ rest)) ≡ false
first_fails p text is [] rest fails = fails
first_fails p text is (x ∷ xs) rest fails = is x
