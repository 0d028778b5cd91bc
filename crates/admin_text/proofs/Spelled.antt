-- What is written of a command spells it.
use Rattle.std.proofs.Common.{◌≡◌, ◌∷◌, ◌++◌, [], ℕ, Bool, true, false, cond, eqb, List, Some, inl, inr, refl, sym, subst}
use Rattle.std.specs.Prelude.{codes}
use Rattle.std.specs.Str.{bytes_eq}
use Rattle.std.proofs.lemmas.Bool.{cases_Bool, eqb-true}
use Rattle.std.proofs.lemmas.Slice.Eq.{bytes_eq-Decides}
use Rattle.common_types.specs.Words.{words_of}
use Rattle.ilp_addr.specs.Address.{IsPrefix, is_scheme}
use Rattle.ilp_addr.specs.Laws.{PrefixWordLaws}
use Rattle.tenant_core.specs.declared.command.Command.{Command}
use Rattle.admin_text.specs.Prefixes.{written_prefix, prefix_word}
use Rattle.admin_text.specs.declared.commands.Verb.{Verb}
use Rattle.admin_text.specs.declared.commands.Verb.TheVariants.{RouteAdd}
use Rattle.common_types.specs.Numbers.{is_between}
use Rattle.std.specs.Fmt.{decimal}
use Rattle.admin_text.specs.Fields.{Field, WORD, NUMBER, ROLE, PREFIX, TARGET, PAIR, FEE, LIMITS, BUCKET, Said, AllSaid, field_words, all_words, IsWithinField, AreWithin, IsSpelled, SpellFields}
use Rattle.admin_text.specs.Commands.{fields, said, command_words, IsWritten, IsCommandText}

-- a star is no prefix
no_star : IsPrefix (codes "*") → ⊥
unfolding is_scheme
no_star h = let k = h.parts.0 in absurd cc

pub prefix_again : PrefixWordLaws → (p : List ℕ) → IsPrefix p → written_prefix (prefix_word p) ≡ Some p
unfolding written_prefix
prefix_again laws [] h = refl
prefix_again laws (b ∷ bytes) h =
    elim (cases_Bool (bytes_eq (b ∷ bytes) (codes "*"))) [
      | inl is ↦ absurd (no_star (subst IsPrefix ((bytes_eq-Decides (b ∷ bytes) (codes "*")).0 is) h))
      | inr other ↦ rw (other, laws.prefix_is_itself (b ∷ bytes) h) refl
    ]

-- a fee has nothing behind it
abbrev IsAtEnd : Field → List (List ℕ) → Type 0
IsAtEnd (FEE high) others = others ≡ []
IsAtEnd f others = Unit {0}

fee_written : (high n : ℕ) (others : List (List ℕ)) (b : Bool) → eqb n 0 ≡ b → is_between 0 high n ≡ true → others ≡ []
    → IsSpelled (FEE high) n (cond b [] (decimal n ∷ []) ++ others) others
fee_written high n others true zero h last = inl (eqb-true n 0 zero, last, last)
fee_written high n others false zero h last = inr (refl, h)

field_written : PrefixWordLaws → (f : Field) (value : Said f) (others : List (List ℕ)) → IsWithinField f value → IsAtEnd f others
    → IsSpelled f value (field_words f value ++ others) others
field_written laws PREFIX p others h last = (prefix_word p, refl, prefix_again laws p h, h)
field_written laws (FEE high) n others h last = fee_written high n others (eqb n 0) refl h last
field_written laws _ value others h last = (refl, h)

-- a fee is the last of the fields
abbrev AreInOrder : List Field → Type 0
AreInOrder [] = Unit {0}
AreInOrder (FEE high ∷ fields) = fields ≡ []
AreInOrder (f ∷ fields) = AreInOrder fields

no_words : (fields : List Field) (values : AllSaid fields) → fields ≡ [] → all_words fields values ≡ []
no_words [] values e = refl
no_words (f ∷ fields) values e = absurd cc

at_end : (f : Field) (fields : List Field) (values : AllSaid fields) → AreInOrder (f ∷ fields) → IsAtEnd f (all_words fields values)
at_end (FEE high) fields values order = no_words fields values order
at_end _ fields values order = tt

in_order : (f : Field) (fields : List Field) → AreInOrder (f ∷ fields) → AreInOrder fields
in_order (FEE high) fields order = subst AreInOrder (sym order) tt
in_order (WORD test) fields order = order
in_order (NUMBER low high) fields order = order
in_order ROLE fields order = order
in_order PREFIX fields order = order
in_order TARGET fields order = order
in_order PAIR fields order = order
in_order LIMITS fields order = order
in_order BUCKET fields order = order

all_written : PrefixWordLaws → (fields : List Field) (values : AllSaid fields) → AreInOrder fields → AreWithin fields values
    → SpellFields fields values (all_words fields values)
all_written laws [] values order h = refl
all_written laws (f ∷ fields) values order h = (
  all_words fields values.1,
  field_written laws f values.0 (all_words fields values.1) h.0 (at_end f fields values.1 order),
  all_written laws fields values.1 (in_order f fields order) h.1,
)

ordered : (v : Verb) → AreInOrder (fields v)
ordered RouteAdd = refl
ordered _ = tt

pub written_is_spelled : PrefixWordLaws → (c : Command) (text : List ℕ) → IsWritten c text → (words_of text ≡ command_words c) × IsCommandText text c
unfolding IsWritten
written_is_spelled laws c text h =
    (h.0, (all_words (fields (said c).0) (said c).1, h.0, all_written laws (fields (said c).0) (said c).1 (ordered (said c).0) h.1))
