-- The grammars of heads: which texts are heads, and what spans are of one.
use Rattle.std.specs.Prelude.{◌≡◌, ℕ, ◌<◌, ◌≤◌, List, [], ◌∷◌, length, slice_index, take, Bool, true, ◌||◌, ◌==◌}
use Rattle.std.specs.List.{ends_with}
use Rattle.httparse.specs.declared.spans.HeaderSpan.{HeaderSpan}
use Rattle.httparse.specs.declared.spans.RequestSpans.{RequestSpans}
use Rattle.httparse.specs.declared.spans.ResponseSpans.{ResponseSpans}
use Rattle.httparse.specs.Grammar.{RequestHead, IsRequestHead, print_request, ResponseHead, IsResponseHead, print_response}
use Rattle.httparse.specs.Spans.{IsRequestAt, IsRequestWithin, IsResponseAt, IsResponseWithin}

-- the text ends in an empty line that follows another line
abbrev pub ends_empty_line : List ℕ → Bool
ends_empty_line text =
    ends_with (λ a b. a == b) text (10 ∷ 10 ∷ []) || ends_with (λ a b. a == b) text (10 ∷ 13 ∷ 10 ∷ [])

-- a byte of which empty lines consist
abbrev pub is_line_end : ℕ → Bool
is_line_end b = b == 10 || b == 13

-- Which texts are heads with so many field lines at most; when spans, with those of the field lines, are the spans of a head
-- that a text begins with; and how many bytes that head has.
pub record Grammar (Spans : Type 0) : Type 1 where
  pub IsHead : List ℕ → ℕ → Type 0
  pub Covers : List ℕ → List HeaderSpan → Spans → Type 0
  pub len : Spans → ℕ

-- each head has a space, and ends with an empty line; and if spans are those of a head, that head is at the front of the text, and
-- they are its spans also in the head alone
pub record IsGrammar {Spans : Type 0} (grammar : Grammar Spans) : Type 0 where
  pub ended : (head : List ℕ) (lines : ℕ) → grammar.IsHead head lines → ends_empty_line head ≡ true
  pub spaced : (head : List ℕ) (lines : ℕ) → grammar.IsHead head lines
      → (place : ℕ) × (place < length head) × (slice_index head place ≡ 32)
  pub within : (text : List ℕ) (lines : List HeaderSpan) (spans : Spans) → grammar.Covers text lines spans
      → grammar.len spans ≤ length text
  pub covered : (text : List ℕ) (lines : List HeaderSpan) (spans : Spans) → grammar.Covers text lines spans
      → grammar.IsHead (take (grammar.len spans) text) (length lines)
  pub cut : (text : List ℕ) (lines : List HeaderSpan) (spans : Spans) → grammar.Covers text lines spans
      → grammar.Covers (take (grammar.len spans) text) lines spans

-- ---- requests

-- the text is the head of a request, with so many field lines at most
pub record IsRequestText (text : List ℕ) (lines : ℕ) : Type 0 where
  pub head : RequestHead
  pub is : IsRequestHead head
  pub printed : text ≡ print_request head
  pub few : length head.fields ≤ lines

-- the spans are those of a head that the text begins with
pub record IsRequest (text : List ℕ) (lines : List HeaderSpan) (spans : RequestSpans) : Type 0 where
  pub head : RequestHead
  pub at : IsRequestAt text lines spans head
  pub few : length head.fields ≤ length lines
  pub within : IsRequestWithin text lines spans

-- the heads of requests
abbrev pub requests : Grammar RequestSpans
requests = record { IsHead = IsRequestText; Covers = IsRequest; len = λ spans. spans.len }

-- ---- answers

-- the text is the head of an answer, with so many field lines at most
pub record IsReplyText (text : List ℕ) (lines : ℕ) : Type 0 where
  pub head : ResponseHead
  pub is : IsResponseHead head
  pub printed : text ≡ print_response head
  pub few : length head.fields ≤ lines

-- the spans are those of a head that the text begins with
pub record IsReply (text : List ℕ) (lines : List HeaderSpan) (spans : ResponseSpans) : Type 0 where
  pub head : ResponseHead
  pub at : IsResponseAt text lines spans head
  pub few : length head.fields ≤ length lines
  pub within : IsResponseWithin text lines spans

-- the heads of answers
abbrev pub answer_heads : Grammar ResponseSpans
answer_heads = record { IsHead = IsReplyText; Covers = IsReply; len = λ spans. spans.len }
