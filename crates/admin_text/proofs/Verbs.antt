-- What is read of a command's words is what they spell.
use Rattle.std.proofs.Common.{◌≡◌, ◌∷◌, ◌++◌, [], ℕ, Bool, true, false, cond, List, length, drop, Result, Ok, Err, IsOkAnd, refl, sym, ap, ◌∙◌, subst, ◌<◌, ◌^◌, arith, rules}
use Rattle.std.specs.Str.{bytes_eq}
use Rattle.std.proofs.lemmas.Bool.{and_parts}
use Rattle.std.proofs.lemmas.Slice.Eq.{bytes_eq-Decides}
use Rattle.money_core.specs.declared.purse.TheConstants.{MAX_MONEY}
use Rattle.tenant_core.specs.declared.command.Command.{Command}
use Rattle.tenant_core.specs.declared.command.Command.TheVariants as command
use Rattle.tenant_core.specs.declared.command.Order.TheVariants.{AddPeer, Settle}
use Rattle.tenant_core.specs.declared.command.Side.TheVariants.{In}
use Rattle.admin_text.specs.Fields.{AllSaid, all_taken}
use Rattle.admin_text.specs.Commands.{fields, verb_words, meaning, said, AreWordsOf, begin_with, verb_among, verbs, verb_taken, command_behind, command_among, TakesMemory, BeginsWithPrefix}
use Rattle.admin_text.specs.declared.commands.TextFault.{TextFault}
use Rattle.admin_text.specs.declared.commands.Verb.{Verb}
use Rattle.admin_text.specs.declared.commands.Verb.TheVariants.{Balances, PeerAdd, RouteAdd, RateSet, SettleIn, SettleOut}
use Rattle.admin_text.proofs.Readings.{Known, AreSmall, bound, all_are, all_read}

begun : (first words : List (List ℕ)) → begin_with first words ≡ true → words ≡ first ++ drop (length first) words
begun [] words h = refl
begun (w ∷ ws) [] h = absurd cc
begun (w ∷ ws) (word ∷ words) h =
    let k = and_parts (begin_with ws words) (bytes_eq word w) h in
    let e : word ≡ w = (bytes_eq-Decides word w).0 k.1 in
    λ i. e i ∷ begun ws words k.0 i

-- the verb that was read comes first
verb_is : (vs : List Verb) (words : List (List ℕ)) (r : Verb × List (List ℕ)) → verb_among vs words ≡ Ok r → words ≡ verb_words r.0 ++ r.1
verb_is [] words r h = absurd cc
verb_is (v ∷ others) words r h = by (begin_with (verb_words v) words) refl (verb_is others words r) h
  where
    by : (b : Bool) → begin_with (verb_words v) words ≡ b → (verb_among others words ≡ Ok r → words ≡ verb_words r.0 ++ r.1)
        → cond b (Ok (v, drop (length (verb_words v)) words)) (verb_among others words) ≡ Ok r → words ≡ verb_words r.0 ++ r.1
    by true is later k = let e : (v, drop (length (verb_words v)) words) ≡ r = cc in subst (λ (q : Verb × List (List ℕ)). words ≡ verb_words q.0 ++ q.1) e (begun (verb_words v) words is)
    by false is later k = later k

-- a verb that comes first is read
verb_read : (v : Verb) (others : List (List ℕ)) → verb_among verbs (verb_words v ++ others) ≡ Ok (v, others)
verb_read Balances others = refl
verb_read _ others = refl

-- the words of a verb that takes memory begin with it
pub begins_with_prefix : (words : List (List ℕ)) → IsOkAnd (verb_taken words) (λ first. TakesMemory first.0 first.1) → BeginsWithPrefix words
unfolding verb_taken
begins_with_prefix words h = by (verb_among verbs words) refl h
  where
    by : (r : Result (Verb × List (List ℕ)) TextFault) → verb_among verbs words ≡ r → IsOkAnd r (λ first. TakesMemory first.0 first.1) → BeginsWithPrefix words
    by (Ok first) is takes = (first.0, first.1, verb_is verbs words first is, takes)
    by (Err fault) is takes = absurd takes

small : (v : Verb) → AreSmall (fields v)
small PeerAdd = (tt, (tt, (tt, (tt, (tt, (omega arith, (tt, (tt, tt))))))))
small RouteAdd = let m : MAX_MONEY < 2 ^ 64 = omega arith in (tt, (tt, (m, tt)))
small RateSet = (tt, (omega arith, (omega arith, tt)))
small SettleIn = (tt, (omega arith, tt))
small SettleOut = (tt, (omega arith, tt))
small _ = search rules

-- what a command says means it, and nothing else does
said_meaning : (v : Verb) (values : AllSaid (fields v)) → said (meaning v values) ≡ (v, values)
said_meaning Balances values = refl
said_meaning _ values = refl

meaning_said : (c : Command) → meaning (said c).0 (said c).1 ≡ c
meaning_said (command.Order (Settle name In amount)) = refl
meaning_said (command.Order (AddPeer t)) = refl
meaning_said _ = refl

pub read_is_spelled : Known → (words : List (List ℕ)) (c : Command) → command_among words ≡ Ok c → AreWordsOf (said c) words
unfolding command_among command_behind verb_taken
read_is_spelled laws words c h =
    let a = bound (verb_among verbs words) _ c h in
    let b = bound (all_taken (fields a.0.0) a.0.1) _ c a.2 in
    let e : meaning a.0.0 b.0 ≡ c = cc in
    let s : AreWordsOf (a.0.0, b.0) words = (a.0.1, verb_is verbs words a.0 a.1, all_are laws (fields a.0.0) (small a.0.0) a.0.1 b.0 b.1) in
    subst (λ (d : Command). AreWordsOf (said d) words) e (subst (λ (d : (v : Verb) × AllSaid (fields v)). AreWordsOf d words) (sym (said_meaning a.0.0 b.0)) s)

pub spelled_is_read : Known → (words : List (List ℕ)) (c : Command) → AreWordsOf (said c) words → command_among words ≡ Ok c
unfolding command_among command_behind verb_taken
spelled_is_read laws words c h =
    rw (h.1, verb_read (said c).0 h.0, all_read laws (fields (said c).0) (small (said c).0) h.0 (said c).1 h.2) (ap (λ (d : Command). Ok d) (meaning_said c))

pub one_command : Known → (words : List (List ℕ)) (a b : Command) → AreWordsOf (said a) words → AreWordsOf (said b) words → a ≡ b
one_command laws words a b h k = same (sym (spelled_is_read laws words a h) ∙ spelled_is_read laws words b k)
  where
    same : {x y : Command} → (let r : Result Command TextFault = Ok x in r) ≡ Ok y → x ≡ y
    same e = cc
