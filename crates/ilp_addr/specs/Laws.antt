-- What holds of addresses, of timestamps and of moments, in the terms of their definitions.
use Rattle.std.specs.Prelude.{◌≡◌, ◌≢◌, ◌≤◌, ◌∷◌, ◌↔◌, ℕ, List, [], pos, Some, Ok, IsTrue, true, not, ◌==◌}
use Rattle.std.specs.List.{list_all}
use Rattle.ilp_addr.specs.Address.{IsAddress, address_at, IsPrefix, prefix_at, without_last_dot, Begins, begins_with}
use Rattle.ilp_addr.specs.Target.{Parts, IsTarget, target_in}
use Rattle.ilp_addr.specs.Timestamp.{IsTimestamp, is_timestamp, instant_of, moment_of, latest_expiry, timestamp_at}
use Rattle.ilp_addr.specs.Timestamp.{timestamp_of}

-- Addresses: reading agrees with what they are (RFC 0015, "Address Requirements").
pub record AddressLaws : Type 0 where
  -- What is read is an address, and all of the bytes.
  pub read_is_address : (bytes address : List ℕ) → address_at bytes ≡ Ok address
      → IsAddress bytes × (address ≡ bytes)
  -- Each address is read.
  pub address_is_read : (bytes : List ℕ) → IsAddress bytes → address_at bytes ≡ Ok bytes

-- Prefixes: reading agrees with what they are, and the test with the relation (RFC 0015, "Address Prefixes").
pub record PrefixLaws : Type 0 where
  -- What is read is a prefix: the bytes, less one dot at their end.
  pub read_is_prefix : (bytes prefix : List ℕ) → prefix_at bytes ≡ Ok prefix
      → IsPrefix prefix × (prefix ≡ without_last_dot bytes)
  -- Each prefix is read, with or without a dot at the end. A single dot is not a prefix.
  pub prefix_is_read : (bytes : List ℕ) → bytes ≢ 46 ∷ [] → IsPrefix (without_last_dot bytes)
      → prefix_at bytes ≡ Ok (without_last_dot bytes)
  -- The test of segments says whether the segments of a prefix come first.
  pub begins_with_decides : (prefix parts : List (List ℕ))
      → IsTrue (begins_with prefix parts) ↔ Begins prefix parts

-- Prefixes as words: each is one, and its own spelling.
pub record PrefixWordLaws : Type 0 where
  -- A prefix is read as itself.
  pub prefix_is_itself : (prefix : List ℕ) → IsPrefix prefix → prefix_at prefix ≡ Ok prefix
  -- It has no space.
  pub prefix_has_no_space : (prefix : List ℕ) → IsPrefix prefix → list_all (λ b. not (b == 32)) prefix ≡ true

-- Targets: reading agrees with what they are, and a URL and a token have one target at most.
pub record TargetLaws : Type 0 where
  -- What is read is the target of the two.
  pub read_is_target : (url token : List ℕ) (t : Parts) → target_in url token ≡ Some t → IsTarget url token t
  -- Their target is read.
  pub target_is_read : (url token : List ℕ) (t : Parts) → IsTarget url token t → target_in url token ≡ Some t
  -- There is one at most.
  pub one_target : (url token : List ℕ) (a b : Parts) → IsTarget url token a → IsTarget url token b → a ≡ b

-- Timestamps: reading agrees with what they are, and one names each moment (RFC 0027, "ILP Prepare").
pub record TimestampLaws : Type 0 where
  -- The test of a timestamp decides what a timestamp is.
  pub is_timestamp_decides : (text : List ℕ) → IsTrue (is_timestamp text) ↔ IsTimestamp text
  -- What is read is a timestamp, and its moment.
  pub read_is_timestamp : (text : List ℕ) (moment : ℕ) → timestamp_at text ≡ Ok moment
      → IsTimestamp text × (moment ≡ moment_of text)
  -- Each timestamp is read.
  pub timestamp_is_read : (text : List ℕ) → IsTimestamp text → timestamp_at text ≡ Ok (moment_of text)
  -- No text is read as a later moment than the latest.
  pub none_later : (text : List ℕ) → moment_of text ≤ latest_expiry
  -- The text of a moment is a timestamp.
  pub timestamp_of_is_one : (moment : ℕ) → moment ≤ latest_expiry → IsTimestamp (timestamp_of moment)
  -- It names that moment.
  pub timestamp_of_names : (moment : ℕ) → moment ≤ latest_expiry → instant_of (timestamp_of moment) ≡ pos moment
  -- It is read as that moment.
  pub timestamp_of_is_back : (moment : ℕ) → moment ≤ latest_expiry → moment_of (timestamp_of moment) ≡ moment
  -- No other timestamp names it.
  pub timestamp_of_is_unique : (text : List ℕ) (moment : ℕ) → IsTimestamp text → instant_of text ≡ pos moment
      → text ≡ timestamp_of moment
