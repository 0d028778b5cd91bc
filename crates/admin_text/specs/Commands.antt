-- The text of a command: words with single spaces between them.
use Rattle.std.specs.Prelude.{◌≡◌, ℕ, List, [], ◌∷◌, ◌++◌, Bool, true, false, ◌&&◌, ◌↔◌, if◌then◌else◌, codes, drop, length}
use Rattle.std.specs.Prelude.{Result, Ok, Err, IsOk}
use Rattle.std.specs.Str.{bytes_eq}
use Rattle.common_types.specs.ResultChain.{◌>>=◌}
use Rattle.common_types.specs.Words.{words_of}
use Rattle.money_core.specs.declared.purse.TheConstants.{MAX_MONEY}
use Rattle.tenant_core.specs.declared.command.Command.{Command}
use Rattle.tenant_core.specs.declared.command.Command.TheVariants as command
use Rattle.tenant_core.specs.declared.command.Order.TheVariants.{AddPeer, RemovePeer, SetLimits, SetBucket}
use Rattle.tenant_core.specs.declared.command.Order.TheVariants.{AddRoute, RemoveRoute, SetRate, Settle}
use Rattle.tenant_core.specs.declared.command.Side.TheVariants.{In, Out}
use Rattle.admin_text.specs.Fields.{Field, NAME, AMOUNT, TERM, PREFIX, PAIR, FEE, LIMITS, BUCKET}
use Rattle.admin_text.specs.Fields.{◌&◌, AllSaid, SpellFields, AreWithin, all_words, field_taken, all_taken}
use Rattle.admin_text.specs.PeerFields.{fields_of, peer_rows, peer_with, peer_values}
use Rattle.admin_text.specs.declared.commands.TextFault.{TextFault}
use Rattle.admin_text.specs.declared.commands.TextFault.TheVariants as fault
use Rattle.admin_text.specs.declared.commands.Verb.{Verb}
use Rattle.admin_text.specs.declared.commands.Verb.TheVariants.{Balances, Roll, PeerAdd, PeerRemove, PeerLimits}
use Rattle.admin_text.specs.declared.commands.Verb.TheVariants.{PeerBucket, RouteAdd, RouteRemove, RateSet}
use Rattle.admin_text.specs.declared.commands.Verb.TheVariants.{SettleIn, SettleOut}

-- ---- each command: its first words, the fields after them, and its meaning

-- the verbs of two words
abbrev pub two_word_verbs : List Verb
two_word_verbs =
    PeerAdd ∷ PeerRemove ∷ PeerLimits ∷ PeerBucket ∷ RouteAdd ∷ RouteRemove
    ∷ RateSet ∷ SettleIn ∷ SettleOut ∷ []

-- all verbs
abbrev pub verbs : List Verb
verbs = Balances ∷ Roll ∷ two_word_verbs

-- how a verb is spelled
abbrev pub verb_words : Verb → List (List ℕ)
verb_words Balances = codes "balances" ∷ []
verb_words Roll = codes "roll" ∷ []
verb_words PeerAdd = codes "peer" ∷ codes "add" ∷ []
verb_words PeerRemove = codes "peer" ∷ codes "remove" ∷ []
verb_words PeerLimits = codes "peer" ∷ codes "limits" ∷ []
verb_words PeerBucket = codes "peer" ∷ codes "bucket" ∷ []
verb_words RouteAdd = codes "route" ∷ codes "add" ∷ []
verb_words RouteRemove = codes "route" ∷ codes "remove" ∷ []
verb_words RateSet = codes "rate" ∷ codes "set" ∷ []
verb_words SettleIn = codes "settle" ∷ codes "in" ∷ []
verb_words SettleOut = codes "settle" ∷ codes "out" ∷ []

-- the fields after a verb
abbrev pub fields : Verb → List Field
fields Balances = []
fields Roll = []
fields PeerAdd = fields_of peer_rows
fields PeerRemove = NAME ∷ []
fields PeerLimits = NAME ∷ LIMITS ∷ []
fields PeerBucket = NAME ∷ BUCKET ∷ []
fields RouteAdd = PREFIX ∷ NAME ∷ FEE MAX_MONEY ∷ []
fields RouteRemove = PREFIX ∷ []
fields RateSet = PAIR ∷ TERM ∷ TERM ∷ []
fields SettleIn = NAME ∷ AMOUNT ∷ []
fields SettleOut = NAME ∷ AMOUNT ∷ []

-- the command of a verb whose fields say that
abbrev pub meaning : (v : Verb) → AllSaid (fields v) → Command
meaning Balances _ = command.Balances
meaning Roll _ = command.Roll
meaning PeerAdd values = command.Order (AddPeer (peer_with values))
meaning PeerRemove (name, _) = command.Order (RemovePeer name)
meaning PeerLimits (name, (limits, _)) = command.Order (SetLimits name limits)
meaning PeerBucket (name, (bucket, _)) = command.Order (SetBucket name bucket)
meaning RouteAdd (prefix, (name, (fee, _))) = command.Order (AddRoute prefix name fee)
meaning RouteRemove (prefix, _) = command.Order (RemoveRoute prefix)
meaning RateSet (pair, (numerator, (denominator, _))) =
    command.Order (SetRate pair (record { numerator = numerator; denominator = denominator }))
meaning SettleIn (name, (amount, _)) = command.Order (Settle name In amount)
meaning SettleOut (name, (amount, _)) = command.Order (Settle name Out amount)

-- the verb of a command, and what its fields say
abbrev pub said : Command → (v : Verb) × AllSaid (fields v)
said command.Balances = (Balances, tt)
said command.Roll = (Roll, tt)
said (command.Order (AddPeer t)) = (PeerAdd, peer_values t)
said (command.Order (RemovePeer name)) = (PeerRemove, name & tt)
said (command.Order (SetLimits name l)) = (PeerLimits, name & l & tt)
said (command.Order (SetBucket name b)) = (PeerBucket, name & b & tt)
said (command.Order (AddRoute prefix name fee)) = (RouteAdd, prefix & name & fee & tt)
said (command.Order (RemoveRoute prefix)) = (RouteRemove, prefix & tt)
said (command.Order (SetRate pair rate)) = (RateSet, pair & rate.numerator & rate.denominator & tt)
said (command.Order (Settle name In amount)) = (SettleIn, name & amount & tt)
said (command.Order (Settle name Out amount)) = (SettleOut, name & amount & tt)

-- ---- what spells a command

-- the words of the verb, and after them those that spell its fields
abbrev pub AreWordsOf : (v : Verb) × AllSaid (fields v) → List (List ℕ) → Type 0
AreWordsOf s words =
    (others : List (List ℕ)) × (words ≡ verb_words s.0 ++ others) × SpellFields (fields s.0) s.1 others

-- the text spells the command
abbrev pub IsCommandText : List ℕ → Command → Type 0
IsCommandText text c = AreWordsOf (said c) (words_of text)

-- the words of a command as it is written
abbrev pub command_words : Command → List (List ℕ)
command_words c = verb_words (said c).0 ++ all_words (fields (said c).0) (said c).1

-- the text is those words, and each field is within its limits
unfoldable pub IsWritten : Command → List ℕ → Type 0
IsWritten c text = (words_of text ≡ command_words c) × AreWithin (fields (said c).0) (said c).1

-- ---- what is read, or the fault of the first word that fails

-- the words begin with these
abbrev pub begin_with : List (List ℕ) → List (List ℕ) → Bool
begin_with [] words = true
begin_with (w ∷ ws) [] = false
begin_with (w ∷ ws) (word ∷ words) = begin_with ws words && bytes_eq word w

-- the first of these verbs that words begin with, and the words after it
abbrev pub verb_among : List Verb → List (List ℕ) → Result (Verb × List (List ℕ)) TextFault
verb_among [] words = Err fault.Verb
verb_among (v ∷ others) words =
    if begin_with (verb_words v) words then Ok (v, drop (length (verb_words v)) words) else verb_among others words

-- the verb at the front of words, and the words after it
unfoldable pub verb_taken : List (List ℕ) → Result (Verb × List (List ℕ)) TextFault
verb_taken words = verb_among verbs words

-- the command of a verb and the words after it
unfoldable pub command_behind : Verb → List (List ℕ) → Result Command TextFault
command_behind v words = do
  values ← all_taken (fields v) words
  Ok (meaning v values)

-- the command that words spell, or the fault of the first that fails
unfoldable pub command_among : List (List ℕ) → Result Command TextFault
command_among words = do
  first ← verb_taken words
  command_behind first.0 first.1

-- the command that a text spells, or the fault of the first word that fails
abbrev pub command_in : List ℕ → Result Command TextFault
command_in text = command_among (words_of text)

-- ---- what takes memory

-- the words after the verb of a route begin with a prefix
abbrev pub TakesMemory : Verb → List (List ℕ) → Type 0
TakesMemory RouteAdd words = IsOk (field_taken PREFIX words)
TakesMemory RouteRemove words = IsOk (field_taken PREFIX words)
TakesMemory _ words = ⊥

-- words begin with the verb of a route, and then a prefix
abbrev pub BeginsWithPrefix : List (List ℕ) → Type 0
BeginsWithPrefix words =
    (verb : Verb) × (behind : List (List ℕ)) × (words ≡ verb_words verb ++ behind) × TakesMemory verb behind

-- Commands and their texts.
pub record CommandLaws : Type 0 where
  -- A text spells one command at most.
  pub one_command : (text : List ℕ) (a b : Command) → IsCommandText text a → IsCommandText text b → a ≡ b
  -- What spells a command is read as it, and what is read is spelled.
  pub spelled_is_read : (text : List ℕ) (c : Command) → IsCommandText text c ↔ command_in text ≡ Ok c
