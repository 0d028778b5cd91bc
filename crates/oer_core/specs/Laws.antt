-- What holds of lengths, octet strings and numbers, in the terms of their definitions.
use Rattle.std.specs.Prelude.{◌≡◌, ◌<◌, ◌≤◌, ◌+◌, ◌^◌, ℕ, List, ◌++◌, length, take, drop, Ok}
use Rattle.std.specs.Int.{w64, to_be_bytes}
use Rattle.oer_core.specs.Length.{AreBytes, IsLength, shortest_length, octet_string, length_at, octets_at, number_at}
use Rattle.oer_core.specs.Writing.{overwritten}

-- Lengths: reading agrees with spelling, and one spelling is the shortest (RFC 0030).
pub record LengthLaws : Type 0 where
  -- A length that is read is spelled by that many bytes, and is within the limit.
  pub read_is_spelled : (limit : ℕ) (bytes : List ℕ) (r : ℕ × ℕ) → length_at limit bytes ≡ Ok r
      → (r.1 ≤ length bytes) × IsLength (take r.1 bytes) r.0 × (r.0 ≤ limit)
  -- A length that is spelled is read, whatever follows it.
  pub spelled_is_read : (limit n : ℕ) (spelling rest : List ℕ) → IsLength spelling n → n ≤ limit
      → length_at limit (spelling ++ rest) ≡ Ok (n, length spelling)
  -- No spelling begins another: of two at the front of the same bytes, both are one, and spell one length.
  pub none_begins_another : (s t rest more : List ℕ) (n m : ℕ) → IsLength s n → IsLength t m
      → s ++ rest ≡ t ++ more → (s ≡ t) × (n ≡ m)
  -- The shortest spelling of a length spells it.
  pub shortest_spells : (n : ℕ) → n < 2 ^ 64 → IsLength (shortest_length n) n
  -- No other spelling has fewer bytes.
  pub shortest : (n : ℕ) (spelling : List ℕ) → n < 2 ^ 64 → AreBytes spelling → IsLength spelling n
      → length (shortest_length n) ≤ length spelling
  -- That of a length below 65,536 has at most three bytes.
  pub three_bytes : (n : ℕ) → n < 65_536 → length (shortest_length n) ≤ 3

-- Numbers of eight bytes: reading agrees with spelling (RFC 0030, "UInt64").
pub record NumberLaws : Type 0 where
  -- A number that is read is spelled by those bytes.
  pub read_is_spelled : (bytes : List ℕ) (n : ℕ) (rest : List ℕ) → AreBytes bytes → number_at bytes ≡ Ok (n, rest)
      → (n < 2 ^ 64) × (bytes ≡ to_be_bytes w64 n ++ rest)
  -- A number that is spelled is read, whatever follows it.
  pub spelled_is_read : (n : ℕ) (rest : List ℕ) → n < 2 ^ 64 → number_at (to_be_bytes w64 n ++ rest) ≡ Ok (n, rest)

-- Writing: two writes, one after the other, and reading back what was written.
pub record WritingLaws : Type 0 where
  -- Two writes, the second right after the first, equal one write of both.
  pub two_are_one : (old : List ℕ) (at : ℕ) (first second : List ℕ) → at + length first ≤ length old
      → overwritten (overwritten old at first) (at + length first) second ≡ overwritten old at (first ++ second)
  -- A length that was written is read back.
  pub lengths : (old : List ℕ) (at n limit : ℕ) → at ≤ length old → n < 2 ^ 64 → n ≤ limit
      → length_at limit (drop at (overwritten old at (shortest_length n))) ≡ Ok (n, length (shortest_length n))
  -- An octet string that was written is read back, with the bytes after it.
  pub strings : (old text : List ℕ) (at limit : ℕ) → at ≤ length old → length text < 2 ^ 64 → length text ≤ limit
      → octets_at limit (drop at (overwritten old at (octet_string text)))
      ≡ Ok (text, drop (at + length (octet_string text)) old)
  -- A number that was written is read back, with the bytes after it.
  pub numbers : (old : List ℕ) (at n : ℕ) → at ≤ length old → n < 2 ^ 64
      → number_at (drop at (overwritten old at (to_be_bytes w64 n))) ≡ Ok (n, drop (at + 8) old)
