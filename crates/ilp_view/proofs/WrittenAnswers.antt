-- What is written as a Fulfill or a Reject is read as one.
use Rattle.std.proofs.Common.{◌≡◌, ◌≤◌, ◌<◌, ◌^◌, ℕ, List, [], ◌∷◌, ◌++◌, length, Ok, ap, subst, append_assoc, arith}
use Rattle.std.proofs.lemmas.List.{append-nil, length-append}
use Rattle.oer_core.specs.Length.{IsLength, shortest_length, octet_string}
use Rattle.oer_core.specs.Laws.{LengthLaws}
use Rattle.ilp_view.specs.Below.{LawsBelow}
use Rattle.ilp_view.specs.Packet.{IsFrame, max_frame, max_data, fulfill_frame, reject_frame, written_fulfill, written_reject, fulfill_contents, reject_contents}
use Rattle.ilp_view.specs.Reading.{fulfill_at, reject_at}
use Rattle.ilp_view.proofs.AnswerLaws.{fulfill_again, reject_again}
use Rattle.ilp_view.proofs.Writes.{reject_holds, fulfill_within}

fulfill_regrouped : (a s p : List ℕ) → a ++ (s ++ p) ≡ a ++ (s ++ (p ++ []))
fulfill_regrouped a s p = simp append-nil

reject_regrouped : (code s t r m q p : List ℕ) → code ++ ((s ++ t) ++ ((r ++ m) ++ (q ++ p))) ≡ code ++ (s ++ (t ++ (r ++ (m ++ (q ++ (p ++ []))))))
reject_regrouped code s t r m q p = simp (append_assoc, append-nil)

-- a frame whose contents stand in the same bytes, grouped in another way
written_frame : LengthLaws → (kind : ℕ) (contents others : List ℕ) → contents ≡ others → length (kind ∷ octet_string contents) ≤ max_frame
    → IsFrame (kind ∷ octet_string contents) kind (shortest_length (length contents)) others
written_frame laws kind contents others same small =
    let size : length contents < 2 ^ 64 = omega (arith, length-append (shortest_length (length contents)) contents) in
    record {
      bytes = ap (λ (x : List ℕ). kind ∷ (shortest_length (length contents) ++ x)) same;
      spelled = subst (λ (x : List ℕ). IsLength (shortest_length (length contents)) (length x)) same (laws.shortest_spells (length contents) size);
      size = small;
    }

pub written_fulfill_read : LawsBelow → (fulfillment payload : List ℕ) → length fulfillment ≡ 32 → length payload ≤ max_data
    → fulfill_at (fulfill_frame fulfillment payload) ≡ Ok (written_fulfill fulfillment payload)
written_fulfill_read laws fulfillment payload len small =
    let contents : List ℕ = fulfillment ++ octet_string payload in
    let w = written_fulfill fulfillment payload in
    let framed = written_frame laws.lengths 13 contents (fulfill_contents w) (fulfill_regrouped fulfillment (shortest_length (length payload)) payload)
    (fulfill_within laws.lengths fulfillment payload len small) in
    fulfill_again laws (fulfill_frame fulfillment payload) w record {
      framed = framed;
      fulfillment = len;
      data_length = laws.lengths.shortest_spells (length payload) (omega arith);
      payload = small;
    }

pub written_reject_read : LawsBelow → (code t m p : List ℕ) → length code ≡ 3 → length p ≤ max_data → length (reject_frame code t m p) ≤ max_frame
    → reject_at (reject_frame code t m p) ≡ Ok (written_reject code t m p)
written_reject_read laws code t m p len small fits =
    let contents : List ℕ = code ++ (octet_string t ++ (octet_string m ++ octet_string p)) in
    let w = written_reject code t m p in
    let holds = reject_holds code t m p in
    let framed = written_frame laws.lengths 14 contents (reject_contents w) (reject_regrouped code (shortest_length (length t)) t (shortest_length (length m)) m (shortest_length (length p)) p) fits in
    reject_again laws (reject_frame code t m p) w record {
      framed = framed;
      code = len;
      triggered_by_length = laws.lengths.shortest_spells (length t) (omega arith);
      message_length = laws.lengths.shortest_spells (length m) (omega arith);
      data_length = laws.lengths.shortest_spells (length p) (omega arith);
      payload = small;
    }
