-- The fields of commands and of the tables of setups: how a value is spelled, and what is read.
use Rattle.std.specs.Prelude.{◌≡◌, ℕ, Bool, true, false, List, [], ◌∷◌, ◌++◌, ◌&&◌, ◌⊎◌, ◌==◌, not, map, if◌then◌else◌, codes}
use Rattle.std.specs.Prelude.{Option, Some, None, Result, Ok, Err}
use Rattle.std.specs.Fmt.{decimal}
use Rattle.std.specs.Str.{bytes_eq}
use Rattle.common_types.specs.Names.{is_name, is_asset_code}
use Rattle.common_types.specs.Numbers.{is_between}
use Rattle.common_types.specs.Numerals.{number_in}
use Rattle.common_types.specs.ResultChain.{◌>>=◌}
use Rattle.common_types.specs.Token.{is_token}
use Rattle.common_types.specs.Words.{words_of}
use Rattle.ildcp_core.specs.declared.child.Role.{Role}
use Rattle.ildcp_core.specs.declared.child.Role.TheVariants.{Child, Peer}
use Rattle.ilp_addr.specs.Address.{IsPrefix}
use Rattle.ilp_addr.specs.Target.{Parts, IsTarget, target_in}
use Rattle.money_core.specs.declared.purse.TheConstants.{MAX_MONEY}
use Rattle.money_core.specs.declared.rate.TheConstants.Rate.{MAX_TERM}
use Rattle.tenant_core.specs.Commands.{Ends}
use Rattle.tenant_core.specs.declared.terms.BucketTerms.{BucketTerms}
use Rattle.tenant_core.specs.declared.terms.PeerLimits.{PeerLimits}
use Rattle.admin_text.specs.Bucket.{bucket_numbers, IsBucketWithin, bucket_taken}
use Rattle.admin_text.specs.Limits.{limit_numbers, AreLimitsWithin, limits_taken}
use Rattle.admin_text.specs.Prefixes.{written_prefix, prefix_word}
use Rattle.admin_text.specs.Taken.{argument, number_or_fault, of_one, of_two, of_any, number_taken, ended}
use Rattle.admin_text.specs.declared.commands.TextFault.{TextFault}
use Rattle.admin_text.specs.declared.commands.TextFault.TheVariants.{Argument}

-- ---- what a field is

-- a word that passes a test; a number from low to high; the role of a peer; a prefix; the URL and the token of a
-- target; the names of two different peers. Then a fee: a number from 0, the last of a command, which is left out if
-- it is 0. Then how far a peer is trusted, and how many of its packets pass
pub data Field : Type 0 where
  WORD : (test : List ℕ → Bool) → Field
  NUMBER : (low high : ℕ) → Field
  ROLE : Field
  PREFIX : Field
  TARGET : Field
  PAIR : Field
  FEE : (high : ℕ) → Field
  LIMITS : Field
  BUCKET : Field

-- a name, a token, an asset's code
abbrev pub NAME : Field
NAME = WORD is_name

abbrev pub TOKEN : Field
TOKEN = WORD is_token

abbrev pub ASSET : Field
ASSET = WORD is_asset_code

-- an asset's decimal places; an amount that is settled; a term of a rate
abbrev pub SCALE : Field
SCALE = NUMBER 0 255

abbrev pub AMOUNT : Field
AMOUNT = NUMBER 1 MAX_MONEY

abbrev pub TERM : Field
TERM = NUMBER 1 MAX_TERM

-- what it says
abbrev pub Said : Field → Type 0
Said (WORD test) = List ℕ
Said (NUMBER low high) = ℕ
Said ROLE = Role
Said PREFIX = List ℕ
Said TARGET = Parts
Said PAIR = Ends
Said (FEE high) = ℕ
Said LIMITS = PeerLimits
Said BUCKET = BucketTerms

-- the word of a role
abbrev pub role_word : Role → List ℕ
role_word Child = codes "child"
role_word Peer = codes "peer"

-- the words that are written for it, a prefix without a dot at its end
abbrev pub field_words : (f : Field) → Said f → List (List ℕ)
field_words (WORD test) word = word ∷ []
field_words (NUMBER low high) n = decimal n ∷ []
field_words ROLE r = role_word r ∷ []
field_words PREFIX p = prefix_word p ∷ []
field_words TARGET t = t.url ∷ t.token ∷ []
field_words PAIR p = p.from ∷ p.to ∷ []
field_words (FEE high) n = if n == 0 then [] else decimal n ∷ []
field_words LIMITS l = map decimal (limit_numbers l)
field_words BUCKET b = map decimal (bucket_numbers b)

-- it is within the limits of its field
abbrev pub IsWithinField : (f : Field) → Said f → Type 0
IsWithinField (WORD test) word = test word ≡ true
IsWithinField (NUMBER low high) n = is_between low high n ≡ true
IsWithinField ROLE r = Unit {0}
IsWithinField PREFIX p = IsPrefix p
IsWithinField TARGET t = IsTarget t.url t.token t
IsWithinField (FEE high) n = is_between 0 high n ≡ true
IsWithinField LIMITS l = AreLimitsWithin l
IsWithinField BUCKET b = IsBucketWithin b
IsWithinField PAIR p = (is_name p.from ≡ true) × (is_name p.to ≡ true) × (bytes_eq p.from p.to ≡ false)

-- words begin with a spelling of it, and the others follow: a prefix has one spelling more, with a dot at its end, and so has a
-- fee of 0, which may be spelled or left out
abbrev pub IsSpelled : (f : Field) → Said f → List (List ℕ) → List (List ℕ) → Type 0
IsSpelled PREFIX p words others =
    (word : List ℕ) × (words ≡ word ∷ others) × (written_prefix word ≡ Some p) × IsPrefix p
IsSpelled (FEE high) n words others =
    ((n ≡ 0) × (words ≡ []) × (others ≡ [])) ⊎ ((words ≡ decimal n ∷ others) × (is_between 0 high n ≡ true))
IsSpelled f value words others = (words ≡ field_words f value ++ others) × IsWithinField f value

-- ---- several fields, one after the other

-- what they say
abbrev pub AllSaid : List Field → Type 0
AllSaid [] = Unit {0}
AllSaid (f ∷ fields) = Said f × AllSaid fields

infixr 20 ◌&◌
-- a value, and those after it
abbrev pub ◌&◌ : {A B : Type 0} → A → B → A × B
value & others = (value, others)

-- the words that are written for them
abbrev pub all_words : (fields : List Field) → AllSaid fields → List (List ℕ)
all_words [] values = []
all_words (f ∷ fields) values = field_words f values.0 ++ all_words fields values.1

-- each is within its limits
abbrev pub AreWithin : (fields : List Field) → AllSaid fields → Type 0
AreWithin [] values = Unit {0}
AreWithin (f ∷ fields) values = IsWithinField f values.0 × AreWithin fields values.1

-- the words spell them, and none is left
abbrev pub SpellFields : (fields : List Field) → AllSaid fields → List (List ℕ) → Type 0
SpellFields [] values words = words ≡ []
SpellFields (f ∷ fields) values words =
    (others : List (List ℕ)) × IsSpelled f values.0 words others × SpellFields fields values.1 others

-- ---- what is written

-- its words follow those of a text, and it is within its limits
abbrev pub IsPut : (f : Field) → Said f → List ℕ → List ℕ → Type 0
IsPut f value before after = (words_of after ≡ words_of before ++ field_words f value) × IsWithinField f value

-- so it is with several
abbrev pub ArePut : (fields : List Field) → AllSaid fields → List ℕ → List ℕ → Type 0
ArePut fields values before after =
    (words_of after ≡ words_of before ++ all_words fields values) × AreWithin fields values

-- ---- what is read of words

-- the value of the only field
abbrev pub only_one : {A : Type 0} → Result A TextFault → Result (A × Unit {0}) TextFault
only_one (Ok value) = Ok (value, tt)
only_one (Err fault) = Err fault

-- the role that a word names
abbrev pub role_of : List ℕ → Option Role
role_of word =
    if bytes_eq word (codes "child") then Some Child
    else (if bytes_eq word (codes "peer") then Some Peer else None)

-- a role
abbrev pub role_in : List ℕ → Result Role TextFault
role_in word = argument (role_of word)

-- the names of two different peers
abbrev pub pair_in : List ℕ → List ℕ → Result Ends TextFault
pair_in from to =
    if is_name from && is_name to && not (bytes_eq from to) then Ok (record { from = from; to = to }) else Err Argument

-- the value of a field at the front of words, and the words after it
unfoldable pub field_taken : (f : Field) → List (List ℕ) → Result (Said f × List (List ℕ)) TextFault
field_taken (WORD test) words = of_one (λ word. if test word then Ok word else Err Argument) words
field_taken (NUMBER low high) words = number_taken low high words
field_taken ROLE words = of_one role_in words
field_taken PREFIX words = of_one (λ word. argument (written_prefix word)) words
field_taken TARGET words = of_two (λ url token. argument (target_in url token)) words
field_taken PAIR words = of_two pair_in words
field_taken (FEE high) words = of_any 0 (λ word. number_or_fault (number_in 0 high word)) words
field_taken LIMITS words = limits_taken words
field_taken BUCKET words = bucket_taken words

-- what all of the words say, or the fault of the first that fails
abbrev pub all_taken : (fields : List Field) → List (List ℕ) → Result (AllSaid fields) TextFault
all_taken [] words = ended words
all_taken (f ∷ fields) words = do
  value ← field_taken f words
  values ← all_taken fields value.1
  Ok (value.0, values)
