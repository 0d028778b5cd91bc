-- What is read of words is what they spell: a field at their front, and several to their end.
use Rattle.std.proofs.Common.{◌≡◌, ◌<◌, ◌^◌, ◌∷◌, [], inl, inr, ℕ, Bool, true, false, not, cond, List, Option, Some, None, Result, Ok, Err, refl, sym, ap, ◌∙◌, subst, arith}
use Rattle.std.specs.Prelude.{codes, ◌&&◌}
use Rattle.std.specs.Result.{result_ok}
use Rattle.std.specs.Fmt.{decimal}
use Rattle.std.specs.Str.{bytes_eq}
use Rattle.std.proofs.lemmas.Slice.Eq.{bytes_eq-Decides}
use Rattle.common_types.specs.Names.{is_name}
use Rattle.common_types.specs.Numbers.{is_between}
use Rattle.common_types.specs.Numerals.{NumeralLaws, number_in}
use Rattle.common_types.specs.ResultChain.{◌>>=◌}
use Rattle.common_types.specs.declared.numerals.NumberFault.{NumberFault}
use Rattle.common_types.specs.declared.numerals.NumberFault.TheVariants.{Malformed, Outside}
use Rattle.ildcp_core.specs.declared.child.Role.{Role}
use Rattle.ildcp_core.specs.declared.child.Role.TheVariants.{Child, Peer}
use Rattle.ilp_addr.specs.Address.{IsPrefix, prefix_at}
use Rattle.ilp_addr.specs.Laws.{PrefixLaws, TargetLaws}
use Rattle.ilp_addr.specs.Target.{IsTarget, target_in}
use Rattle.ilp_addr.specs.declared.fault.AddrFault.{AddrFault}
use Rattle.money_core.specs.declared.purse.TheConstants.{MAX_MONEY}
use Rattle.tenant_core.specs.Commands.{Ends}
use Rattle.tenant_core.specs.declared.limits.TheConstants.{MAX_BURST, MAX_PER_SECOND}
use Rattle.tenant_core.specs.declared.terms.BucketTerms.{BucketTerms}
use Rattle.tenant_core.specs.declared.terms.PeerLimits.{PeerLimits}
use Rattle.admin_text.specs.Prefixes.{written_prefix}
use Rattle.admin_text.specs.Fields.{Field, WORD, NUMBER, ROLE, PREFIX, TARGET, PAIR, FEE, LIMITS, BUCKET, Said, AllSaid, IsSpelled, SpellFields, role_word}
use Rattle.admin_text.specs.Limits.{limits_with}
use Rattle.admin_text.specs.Bucket.{bucket_with}
use Rattle.admin_text.specs.Taken.{argument, number_or_fault, with_others, of_one, of_two, number_taken, ended}
use Rattle.admin_text.specs.Fields.{role_of, role_in, pair_in, field_taken, all_taken}
use Rattle.admin_text.specs.declared.commands.TextFault.{TextFault}
use Rattle.admin_text.specs.declared.commands.TextFault.TheVariants.{Argument}

-- what is known of numbers, prefixes and targets
pub record Known : Type 0 where
  pub numbers : NumeralLaws
  pub prefixes : PrefixLaws
  pub targets : TargetLaws

-- its numbers have up to 64 bits
abbrev pub IsSmall : Field → Type 0
IsSmall (NUMBER low high) = high < 2 ^ 64
IsSmall (FEE high) = high < 2 ^ 64
IsSmall f = Unit {0}

abbrev pub AreSmall : List Field → Type 0
AreSmall [] = Unit {0}
AreSmall (f ∷ fields) = IsSmall f × AreSmall fields

-- a reading after another that gave a value
pub bound : {A B : Type 0} (r : Result A TextFault) (f : A → Result B TextFault) (b : B) → (r >>= f) ≡ Ok b → (a : A) × (r ≡ Ok a) × (f a ≡ Ok b)
bound (Ok a) f b h = (a, refl, h)
bound (Err e) f b h = absurd cc

-- ---- what was read is spelled

rested : {A : Type 0} (words : List (List ℕ)) (x : Result A TextFault) (r : A × List (List ℕ)) → with_others words x ≡ Ok r → (x ≡ Ok r.0) × (words ≡ r.1)
rested words (Ok v) r h =
    let p : (v, words) ≡ r = cc in
    (ap (λ (q : _ × List (List ℕ)). Ok q.0) p, ap (λ (q : _ × List (List ℕ)). q.1) p)
rested words (Err e) r h = absurd cc

one : {A : Type 0} (read : List ℕ → Result A TextFault) (words : List (List ℕ)) (r : A × List (List ℕ)) → of_one read words ≡ Ok r
    → (word : List ℕ) × (words ≡ word ∷ r.1) × (read word ≡ Ok r.0)
one read [] r h = absurd cc
one read (word ∷ words) r h = let k = rested words (read word) r h in (word, ap (λ (ws : List (List ℕ)). word ∷ ws) k.1, k.0)

two : {A : Type 0} (read : List ℕ → List ℕ → Result A TextFault) (words : List (List ℕ)) (r : A × List (List ℕ)) → of_two read words ≡ Ok r
    → (first : List ℕ) × (second : List ℕ) × (words ≡ first ∷ second ∷ r.1) × (read first second ≡ Ok r.0)
two read [] r h = absurd cc
two read (first ∷ []) r h = absurd cc
two read (first ∷ second ∷ words) r h =
    let k = rested words (read first second) r h in (first, second, ap (λ (ws : List (List ℕ)). first ∷ second ∷ ws) k.1, k.0)

chosen : (b : Bool) (word value : List ℕ) → cond b (Ok word) (Err Argument) ≡ Ok value → (b ≡ true) × (word ≡ value)
chosen true word value h = (refl, cc)
chosen false word value h = absurd cc

given : {A : Type 0} (o : Option A) (v : A) → argument o ≡ Ok v → o ≡ Some v
given (Some w) v h = cc
given None v h = absurd cc

number_is : (x : Result ℕ NumberFault) (n : ℕ) → number_or_fault x ≡ Ok n → x ≡ Ok n
number_is (Ok m) n h = cc
number_is (Err Malformed) n h = absurd cc
number_is (Err Outside) n h = absurd cc

role_is : (word : List ℕ) (a b : Bool) (role : Role) → bytes_eq word (codes "child") ≡ a → bytes_eq word (codes "peer") ≡ b
    → cond a (Some Child) (cond b (Some Peer) None) ≡ Some role → word ≡ role_word role
role_is word true b Child e f h = (bytes_eq-Decides word (codes "child")).0 e
role_is word true b Peer e f h = absurd cc
role_is word false true Child e f h = absurd cc
role_is word false true Peer e f h = (bytes_eq-Decides word (codes "peer")).0 f
role_is word false false role e f h = absurd cc

pair_is : (from to : List ℕ) (a b c : Bool) (pair : Ends) → is_name from ≡ a → is_name to ≡ b → bytes_eq from to ≡ c
    → cond (a && b && not c) (Ok (record { from = from; to = to })) (Err Argument) ≡ Ok pair
    → (record { from = from; to = to } ≡ pair) × (is_name from ≡ true) × (is_name to ≡ true) × (bytes_eq from to ≡ false)
pair_is from to true true false pair e f g h = (cc, e, f, g)
pair_is from to true true true pair e f g h = absurd cc
pair_is from to true false c pair e f g h = absurd cc
pair_is from to false b c pair e f g h = absurd cc

-- a prefix that was read of a word is one
read_prefix : PrefixLaws → (word prefix : List ℕ) (a b : Bool) → cond a (Some []) (cond b None (result_ok (prefix_at word))) ≡ Some prefix → IsPrefix prefix
read_prefix laws word prefix true b h = let e : [] ≡ prefix = cc in subst IsPrefix e (record { short = omega arith; parts = tt })
read_prefix laws word prefix false true h = absurd cc
read_prefix laws word prefix false false h = read (prefix_at word) refl h
  where
    read : (r : Result (List ℕ) AddrFault) → prefix_at word ≡ r → result_ok r ≡ Some prefix → IsPrefix prefix
    read (Ok p) e k = (laws.read_is_prefix word prefix (let q : p ≡ prefix = cc in e ∙ ap (λ (x : List ℕ). Ok x) q)).0
    read (Err f) e k = absurd cc

is_prefix : PrefixLaws → (word prefix : List ℕ) → written_prefix word ≡ Some prefix → IsPrefix prefix
unfolding written_prefix
is_prefix laws word prefix h = read_prefix laws word prefix (bytes_eq word (codes "*")) (bytes_eq word []) h

-- a number of up to 64 bits at the front of words
number_is_there : Known → (low high : ℕ) → high < 2 ^ 64 → (words : List (List ℕ)) (r : ℕ × List (List ℕ)) → number_taken low high words ≡ Ok r
    → (words ≡ decimal r.0 ∷ r.1) × (is_between low high r.0 ≡ true)
unfolding number_taken
number_is_there laws low high small words r h =
    let k = one _ words r h in
    let m = laws.numbers.read_is_numeral low high k.0 r.0 small (number_is (number_in low high k.0) r.0 k.2) in
    (k.1 ∙ ap (λ (w : List ℕ). w ∷ r.1) m.0, m.1)

field_is : Known → (f : Field) → IsSmall f → (words : List (List ℕ)) (r : Said f × List (List ℕ)) → field_taken f words ≡ Ok r → IsSpelled f r.0 words r.1
unfolding field_taken
field_is laws (WORD test) small words r h =
    let k = one _ words r h in
    let m = chosen (test k.0) k.0 r.0 k.2 in
    (k.1 ∙ ap (λ (w : List ℕ). w ∷ r.1) m.1, subst (λ (w : List ℕ). test w ≡ true) m.1 m.0)
field_is laws (NUMBER low high) small words r h = number_is_there laws low high small words r h
field_is laws LIMITS small words r h =
    let m : MAX_MONEY < 2 ^ 64 = omega arith in
    let a = bound (number_taken 0 MAX_MONEY words) _ r h in
    let b = bound (number_taken 0 MAX_MONEY a.0.1) _ r a.2 in
    let c = bound (number_taken 0 MAX_MONEY b.0.1) _ r b.2 in
    let x = number_is_there laws 0 MAX_MONEY m words a.0 a.1 in
    let y = number_is_there laws 0 MAX_MONEY m a.0.1 b.0 b.1 in
    let z = number_is_there laws 0 MAX_MONEY m b.0.1 c.0 c.1 in
    let e : (limits_with a.0.0 b.0.0 c.0.0, c.0.1) ≡ r = cc in
    subst (λ (q : PeerLimits × List (List ℕ)). IsSpelled LIMITS q.0 words q.1) e
    (x.0 ∙ ap (λ (ws : List (List ℕ)). decimal a.0.0 ∷ ws) (y.0 ∙ ap (λ (ws : List (List ℕ)). decimal b.0.0 ∷ ws) z.0), (x.1, (y.1, (z.1, tt))))
field_is laws BUCKET small words r h =
    let a = bound (number_taken 1 MAX_BURST words) _ r h in
    let b = bound (number_taken 0 MAX_PER_SECOND a.0.1) _ r a.2 in
    let x = number_is_there laws 1 MAX_BURST (omega arith) words a.0 a.1 in
    let y = number_is_there laws 0 MAX_PER_SECOND (omega arith) a.0.1 b.0 b.1 in
    let e : (bucket_with a.0.0 b.0.0, b.0.1) ≡ r = cc in
    subst (λ (q : BucketTerms × List (List ℕ)). IsSpelled BUCKET q.0 words q.1) e
    (x.0 ∙ ap (λ (ws : List (List ℕ)). decimal a.0.0 ∷ ws) y.0, (x.1, y.1))
field_is laws ROLE small words r h =
    let k = one role_in words r h in
    let m = given (role_of k.0) r.0 k.2 in
    let e = role_is k.0 (bytes_eq k.0 (codes "child")) (bytes_eq k.0 (codes "peer")) r.0 refl refl m in
    (k.1 ∙ ap (λ (w : List ℕ). w ∷ r.1) e, tt)
field_is laws PREFIX small words r h =
    let k = one _ words r h in
    let m = given (written_prefix k.0) r.0 k.2 in
    (k.0, k.1, m, is_prefix laws.prefixes k.0 r.0 m)
field_is laws TARGET small words r h =
    let k = two _ words r h in
    let t = laws.targets.read_is_target k.0 k.1 r.0 (given (target_in k.0 k.1) r.0 k.3) in
    let u : k.0 ≡ r.0.url = sym t.url_is in
    let v : k.1 ≡ r.0.token = sym t.token_is in
    (k.2 ∙ (λ i. u i ∷ v i ∷ r.1), subst (λ (x : List ℕ). IsTarget x r.0.token r.0) u (subst (λ (x : List ℕ). IsTarget k.0 x r.0) v t))
field_is laws PAIR small words r h =
    let k = two pair_in words r h in
    let m = pair_is k.0 k.1 (is_name k.0) (is_name k.1) (bytes_eq k.0 k.1) r.0 refl refl refl k.3 in
    subst (λ (p : Ends). IsSpelled PAIR p words r.1) m.0 (k.2, (m.1, m.2, m.3))
field_is laws (FEE high) small [] r h =
    let e : (let p : ℕ × List (List ℕ) = (0, []) in p) ≡ r = cc in
    inl (ap (λ (p : ℕ × List (List ℕ)). p.0) (sym e), refl, ap (λ (p : ℕ × List (List ℕ)). p.1) (sym e))
field_is laws (FEE high) small (word ∷ words) r h =
    let k = rested words (number_or_fault (number_in 0 high word)) r h in
    let m = laws.numbers.read_is_numeral 0 high word r.0 small (number_is (number_in 0 high word) r.0 k.0) in
    inr ((λ i. m.0 i ∷ k.1 i), m.1)

none_left : (words : List (List ℕ)) (u : Unit {0}) → ended words ≡ Ok u → words ≡ []
unfolding ended
none_left [] u h = refl
none_left (word ∷ words) u h = absurd cc

pub all_are : Known → (fields : List Field) → AreSmall fields → (words : List (List ℕ)) (values : AllSaid fields) → all_taken fields words ≡ Ok values → SpellFields fields values words
all_are laws [] small words values h = none_left words values h
all_are laws (f ∷ fields) small words values h =
    let a = bound (field_taken f words) _ values h in
    let b = bound (all_taken fields a.0.1) _ values a.2 in
    let e : (a.0.0, b.0) ≡ values = cc in
    subst (λ (vs : AllSaid (f ∷ fields)). SpellFields (f ∷ fields) vs words) e (a.0.1, field_is laws f small.0 words a.0 a.1, all_are laws fields small.1 a.0.1 b.0 b.1)

-- ---- what is spelled is read

number_there : Known → (low high n : ℕ) → high < 2 ^ 64 → is_between low high n ≡ true → (others : List (List ℕ)) → number_taken low high (decimal n ∷ others) ≡ Ok (n, others)
unfolding number_taken
number_there laws low high n small h others = rw (laws.numbers.numeral_is_read low high n small h) refl

field_read : Known → (f : Field) → IsSmall f → (value : Said f) (words others : List (List ℕ)) → IsSpelled f value words others → field_taken f words ≡ Ok (value, others)
unfolding field_taken
field_read laws (WORD test) small value words others h = rw (h.0, h.1) refl
field_read laws (NUMBER low high) small value words others h = rw (h.0, number_there laws low high value small h.1 others) refl
field_read laws LIMITS small value words others h =
    let m : MAX_MONEY < 2 ^ 64 = omega arith in
    let first = number_there laws 0 MAX_MONEY value.cap m h.1.0 in
    let second = number_there laws 0 MAX_MONEY value.ceiling m h.1.1.0 in
    let third = number_there laws 0 MAX_MONEY value.credit m h.1.1.1.0 in
    rw (h.0, first (decimal value.ceiling ∷ decimal value.credit ∷ others), second (decimal value.credit ∷ others), third others) refl
field_read laws BUCKET small value words others h =
    let first = number_there laws 1 MAX_BURST value.burst (omega arith) h.1.0 in
    let second = number_there laws 0 MAX_PER_SECOND value.per_second (omega arith) h.1.1 in
    rw (h.0, first (decimal value.per_second ∷ others), second others) refl
field_read laws ROLE small Child words others h = rw h.0 refl
field_read laws ROLE small Peer words others h = rw h.0 refl
field_read laws PREFIX small value words others h = rw (h.1, h.2) refl
field_read laws TARGET small value words others h = rw (h.0, laws.targets.target_is_read value.url value.token value h.1) refl
field_read laws PAIR small value words others h = rw (h.0, h.1.0, h.1.1, h.1.2) refl
field_read laws (FEE high) small value words others (inl h) = rw (h.1, h.0, h.2) refl
field_read laws (FEE high) small value words others (inr h) = rw (h.0, laws.numbers.numeral_is_read 0 high value small h.1) refl

pub all_read : Known → (fields : List Field) → AreSmall fields → (words : List (List ℕ)) (values : AllSaid fields) → SpellFields fields values words → all_taken fields words ≡ Ok values
unfolding ended
all_read laws [] small words values h = rw h refl
all_read laws (f ∷ fields) small words values h =
    rw (field_read laws f small.0 values.0 words h.0 h.1, all_read laws fields small.1 h.0 values.1 h.2) refl
