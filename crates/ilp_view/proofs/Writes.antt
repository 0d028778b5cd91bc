-- How long written frames are, and that several writes one behind the other are one.
use Rattle.std.proofs.Common.{◌≡◌, ◌≤◌, ◌<◌, ◌+◌, ℕ, List, [], ◌∷◌, ◌++◌, length, refl, ap, ◌∙◌, append_assoc, arith}
use Rattle.std.proofs.lemmas.List.{length-append}
use Rattle.oer_core.specs.Length.{shortest_length, octet_string}
use Rattle.oer_core.specs.Writing.{overwritten}
use Rattle.oer_core.specs.Laws.{LengthLaws, WritingLaws}
use Rattle.ilp_view.specs.Packet.{max_frame, max_data, fulfill_frame, reject_frame}

pub octets_short : LengthLaws → (text : List ℕ) → length text < 65536 → length (octet_string text) ≤ length text + 3
octets_short laws text small = omega (arith, laws.three_bytes (length text) small, length-append (shortest_length (length text)) text)

pub length-contents : (code t m p : List ℕ) → length code ≡ 3 → length (code ++ (t ++ (m ++ p))) ≡ 3 + length t + length m + length p
length-contents code t m p len = omega (arith, length-append code (t ++ (m ++ p)), length-append t (m ++ p), length-append m p)

-- the parts take 16 bytes at most besides their own
pub reject_within : LengthLaws → (code t m p : List ℕ) → length code ≡ 3 → length t + length m + length p ≤ max_frame → length (reject_frame code t m p) ≤ 16 + length t + length m + length p
reject_within laws code t m p len fits =
    let contents : List ℕ = code ++ (octet_string t ++ (octet_string m ++ octet_string p)) in
    let n : length contents ≡ 3 + length (octet_string t) + length (octet_string m) + length (octet_string p) =
    length-contents code (octet_string t) (octet_string m) (octet_string p) len in
    let a : length (octet_string t) ≤ length t + 3 = octets_short laws t (omega arith) in
    let b : length (octet_string m) ≤ length m + 3 = octets_short laws m (omega arith) in
    let c : length (octet_string p) ≤ length p + 3 = octets_short laws p (omega arith) in
    let most : length contents ≤ 34_012 = omega arith in
    let whole : length (octet_string contents) ≤ length contents + 3 = octets_short laws contents (omega arith) in
    omega arith

-- and they stand in the frame
pub reject_holds : (code t m p : List ℕ) → length t + length m + length p ≤ length (reject_frame code t m p)
reject_holds code t m p =
    let contents : List ℕ = code ++ (octet_string t ++ (octet_string m ++ octet_string p)) in
    let a = length-append (shortest_length (length t)) t in
    let b = length-append (shortest_length (length m)) m in
    let c = length-append (shortest_length (length p)) p in
    let one = length-append code (octet_string t ++ (octet_string m ++ octet_string p)) in
    let two = length-append (octet_string t) (octet_string m ++ octet_string p) in
    let three = length-append (octet_string m) (octet_string p) in
    let whole = length-append (shortest_length (length contents)) contents in
    omega (arith, a, b, c, one, two, three, whole)

pub fulfill_within : LengthLaws → (fulfillment payload : List ℕ) → length fulfillment ≡ 32 → length payload ≤ max_data → length (fulfill_frame fulfillment payload) ≤ max_frame
fulfill_within laws fulfillment payload len small =
    let contents : List ℕ = fulfillment ++ octet_string payload in
    let longest : length (octet_string payload) ≤ length payload + 3 = octets_short laws payload (omega arith) in
    let n : length contents ≡ 32 + length (octet_string payload) = omega (arith, length-append fulfillment (octet_string payload)) in
    let whole : length (octet_string contents) ≤ length contents + 3 = octets_short laws contents (omega arith) in
    omega arith

-- a frame has its type, the length of its contents and these
framed_size : (kind size : ℕ) (contents : List ℕ) → size ≡ length contents → 1 + length (shortest_length size) + size ≡ length (kind ∷ (shortest_length (length contents) ++ contents))
framed_size kind size contents is =
    let spelled : length (shortest_length size) ≡ length (shortest_length (length contents)) = ap (λ (n : ℕ). length (shortest_length n)) is in
    omega (arith, length-append (shortest_length (length contents)) contents)

pub fulfill_size : (size : ℕ) (fulfillment payload : List ℕ) → size ≡ length (fulfillment ++ octet_string payload) → 1 + length (shortest_length size) + size ≡ length (fulfill_frame fulfillment payload)
fulfill_size size fulfillment payload is = framed_size 13 size (fulfillment ++ octet_string payload) is

pub reject_size : (size : ℕ) (code t m p : List ℕ) → size ≡ length (code ++ (octet_string t ++ (octet_string m ++ octet_string p))) → 1 + length (shortest_length size) + size ≡ length (reject_frame code t m p)
reject_size size code t m p is = framed_size 14 size (code ++ (octet_string t ++ (octet_string m ++ octet_string p))) is

-- one more write behind what was written from the front on
overwritten_next : WritingLaws → (old done bytes x y : List ℕ) (at : ℕ) → x ≡ overwritten old 0 done → at ≡ length done → y ≡ overwritten x at bytes
    → length done ≤ length old → y ≡ overwritten old 0 (done ++ bytes)
overwritten_next laws old done bytes x y at is place then fits =
    then
    ∙ ap (λ (z : List ℕ). overwritten z at bytes) is
    ∙ ap (λ (k : ℕ). overwritten (overwritten old 0 done) k bytes) (omega arith)
    ∙ laws.two_are_one old 0 done bytes (omega arith)

pub fulfill_written : WritingLaws → (old x1 x2 x3 x4 spelling fulfillment p : List ℕ) (a kind : ℕ)
    → x1 ≡ overwritten old 0 (kind ∷ [])
    → a ≡ 1 + length spelling → x2 ≡ overwritten x1 1 spelling
    → length fulfillment ≡ 32 → x3 ≡ overwritten x2 a fulfillment
    → x4 ≡ overwritten x3 (a + 32) p
    → 1 + length spelling + 32 + length p ≤ length old
    → x4 ≡ overwritten old 0 (kind ∷ (spelling ++ (fulfillment ++ p)))
fulfill_written laws old x1 x2 x3 x4 spelling fulfillment p a kind w1 e2 w2 len w3 w4 fits =
    let front : List ℕ = kind ∷ [] in
    let l2 : length (front ++ spelling) ≡ 1 + length spelling = omega (arith, length-append front spelling) in
    let l3 : length (front ++ spelling ++ fulfillment) ≡ 33 + length spelling = omega (arith, length-append (front ++ spelling) fulfillment) in
    let s2 = overwritten_next laws old front spelling x1 x2 1 w1 refl w2 (omega arith) in
    let s3 = overwritten_next laws old (front ++ spelling) fulfillment x2 x3 a s2 (omega arith) w3 (omega arith) in
    let s4 = overwritten_next laws old (front ++ spelling ++ fulfillment) p x3 x4 (a + 32) s3 (omega arith) w4 (omega arith) in
    s4 ∙ ap (λ (x : List ℕ). overwritten old 0 (kind ∷ x)) (append_assoc spelling fulfillment p)

pub reject_written : WritingLaws → (old x1 x2 x3 x4 x5 x6 spelling code t m p : List ℕ) (a b d kind : ℕ)
    → x1 ≡ overwritten old 0 (kind ∷ [])
    → a ≡ 1 + length spelling → x2 ≡ overwritten x1 1 spelling
    → length code ≡ 3 → x3 ≡ overwritten x2 a code
    → b ≡ a + 3 + length t → x4 ≡ overwritten x3 (a + 3) t
    → d ≡ b + length m → x5 ≡ overwritten x4 b m
    → x6 ≡ overwritten x5 d p
    → 1 + length spelling + 3 + length t + length m + length p ≤ length old
    → x6 ≡ overwritten old 0 (kind ∷ (spelling ++ (code ++ (t ++ (m ++ p)))))
reject_written laws old x1 x2 x3 x4 x5 x6 spelling code t m p a b d kind w1 e2 w2 len w3 e4 w4 e5 w5 w6 fits =
    let front : List ℕ = kind ∷ [] in
    let l2 : length (front ++ spelling) ≡ 1 + length spelling = omega (arith, length-append front spelling) in
    let l3 : length (front ++ spelling ++ code) ≡ 4 + length spelling = omega (arith, length-append (front ++ spelling) code) in
    let l4 : length (front ++ spelling ++ code ++ t) ≡ 4 + length spelling + length t = omega (arith, length-append (front ++ spelling ++ code) t) in
    let l5 : length (front ++ spelling ++ code ++ t ++ m) ≡ 4 + length spelling + length t + length m = omega (arith, length-append (front ++ spelling ++ code ++ t) m) in
    let s2 = overwritten_next laws old front spelling x1 x2 1 w1 refl w2 (omega arith) in
    let s3 = overwritten_next laws old (front ++ spelling) code x2 x3 a s2 (omega arith) w3 (omega arith) in
    let s4 = overwritten_next laws old (front ++ spelling ++ code) t x3 x4 (a + 3) s3 (omega arith) w4 (omega arith) in
    let s5 = overwritten_next laws old (front ++ spelling ++ code ++ t) m x4 x5 b s4 (omega arith) w5 (omega arith) in
    let s6 = overwritten_next laws old (front ++ spelling ++ code ++ t ++ m) p x5 x6 d s5 (omega arith) w6 (omega arith) in
    s6 ∙ ap (λ (x : List ℕ). overwritten old 0 (kind ∷ x)) (regrouped spelling code t m p)
  where
    regrouped : (s c t m p : List ℕ) → s ++ c ++ t ++ m ++ p ≡ s ++ (c ++ (t ++ (m ++ p)))
    regrouped s c t m p = simp append_assoc
