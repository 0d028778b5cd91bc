-- What the readers of single fields take, and what they read again.
use Rattle.std.proofs.Common.{◌≡◌, ◌≤◌, ◌+◌, ℕ, List, [], ◌∷◌, ◌++◌, length, take, drop, Bool, true, false, cond, ltb, eqb, Result, Ok, Err, refl, sym, ap, subst, ◌∙◌, arith, inl, inr}
use Rattle.std.proofs.lemmas.Bool.{ltb-false, le-ltb, eqb-true, eq-eqb}
use Rattle.std.proofs.lemmas.List.{take_at, drop_at, take-append-drop, length-append, length-take-le, append-nil, nil_from_length}
use Rattle.oer_core.specs.declared.fault.OerFault.{OerFault}
use Rattle.common_types.specs.ResultChain.{◌>>=◌}
use Rattle.oer_core.specs.Length.{IsLength, length_at}
use Rattle.ilp_addr.specs.declared.fault.AddrFault.{AddrFault}
use Rattle.ilp_addr.specs.Address.{IsAddress, address_at}
use Rattle.ilp_addr.specs.Timestamp.{IsTimestamp, timestamp_at}
use Rattle.ilp_view.specs.declared.fault.ViewFault.{ViewFault}
use Rattle.ilp_view.specs.declared.fault.ViewFault.TheVariants.{Oer, AfterEnd, Size, Kind}
use Rattle.ilp_view.specs.Below.{LawsBelow}
use Rattle.ilp_view.specs.Packet.{IsFrame, max_frame}
use Rattle.ilp_view.specs.Reading.{as_oer, as_field, fixed_at, string_at, expiry_at, destination_at, data_at, whole_string, behind_type, envelope_at}
use Rattle.ilp_view.proofs.Results.{bind_ok, guard_ok, chosen}

pub as_oer_ok : {A : Type 0} (r : Result A OerFault) (x : A) → as_oer r ≡ Ok x → r ≡ Ok x
as_oer_ok (Ok y) x e = cc
as_oer_ok (Err d) x e = absurd cc

as_field_ok : {A : Type 0} (r : Result A AddrFault) (x : A) → as_field r ≡ Ok x → r ≡ Ok x
as_field_ok (Ok y) x e = cc
as_field_ok (Err d) x e = absurd cc

abbrev pub ok_of : {A : Type 0} → A → Result A ViewFault
ok_of x = Ok x

pub same_ok : {A : Type 0} (x y : A) → ok_of x ≡ ok_of y → x ≡ y
same_ok x y e = cc

ok_if : {A : Type 0} (b : Bool) (d : ViewFault) (x y : A) → cond b (Ok x) (Err d) ≡ Ok y → (b ≡ true) × (x ≡ y)
ok_if true d x y e = (refl, cc)
ok_if false d x y e = absurd cc

-- ---- a field of so many bytes

pub fixed_takes : (count : ℕ) (bytes : List ℕ) (r : List ℕ × List ℕ) → fixed_at count bytes ≡ Ok r → (bytes ≡ r.0 ++ r.1) × (length r.0 ≡ count)
unfolding fixed_at
fixed_takes count bytes r e =
    let g = guard_ok (ltb (length bytes) count) Oer (take count bytes, drop count bytes) r e in
    subst (λ (q : List ℕ × List ℕ). (bytes ≡ q.0 ++ q.1) × (length q.0 ≡ count)) g.1 (sym (take-append-drop count bytes), length-take-le count bytes (ltb-false _ _ g.0))

pub fixed_again : (count : ℕ) (x rest : List ℕ) → length x ≡ count → fixed_at count (x ++ rest) ≡ Ok (x, rest)
unfolding fixed_at
fixed_again count x rest len =
    rw (le-ltb (length (x ++ rest)) count (omega (arith, length-append x rest)), take_at x rest count len, drop_at x rest count len) refl

-- ---- an octet string

abbrev cut : List ℕ → ℕ × ℕ → List ℕ × List ℕ × List ℕ
cut bytes n = (take n.1 bytes, take n.0 (drop n.1 bytes), drop n.0 (drop n.1 bytes))

pub string_takes : LawsBelow → (bytes : List ℕ) (r : List ℕ × List ℕ × List ℕ) → string_at bytes ≡ Ok r → (bytes ≡ r.0 ++ (r.1 ++ r.2)) × IsLength r.0 (length r.1)
unfolding string_at
string_takes laws bytes r e =
    let b = bind_ok (as_oer (length_at max_frame bytes)) (λ n. cond (ltb (length (drop n.1 bytes)) n.0) (Err Oer) (Ok (cut bytes n))) r e in
    let n = b.0 in
    let t = laws.lengths.read_is_spelled max_frame bytes n (as_oer_ok (length_at max_frame bytes) n b.1) in
    let g = guard_ok (ltb (length (drop n.1 bytes)) n.0) Oer (cut bytes n) r b.2 in
    let len : length (take n.0 (drop n.1 bytes)) ≡ n.0 = length-take-le n.0 (drop n.1 bytes) (ltb-false _ _ g.0) in
    let after : drop n.1 bytes ≡ take n.0 (drop n.1 bytes) ++ drop n.0 (drop n.1 bytes) = sym (take-append-drop n.0 (drop n.1 bytes)) in
    let whole : bytes ≡ take n.1 bytes ++ (take n.0 (drop n.1 bytes) ++ drop n.0 (drop n.1 bytes)) = sym (take-append-drop n.1 bytes) ∙ ap (λ (x : List ℕ). take n.1 bytes ++ x) after in
    let spelled : IsLength (take n.1 bytes) (length (take n.0 (drop n.1 bytes))) = subst (λ (m : ℕ). IsLength (take n.1 bytes) m) (sym len) t.1 in
    subst (λ (q : List ℕ × List ℕ × List ℕ). (bytes ≡ q.0 ++ (q.1 ++ q.2)) × IsLength q.0 (length q.1)) g.1 (whole, spelled)

pub string_again : LawsBelow → (spelling text rest : List ℕ) → IsLength spelling (length text) → length text ≤ 34000 → string_at (spelling ++ (text ++ rest)) ≡ Ok (spelling, text, rest)
unfolding string_at
string_again laws spelling text rest spelled short =
    let dropped : drop (length spelling) (spelling ++ (text ++ rest)) ≡ text ++ rest = drop_at spelling (text ++ rest) (length spelling) refl in
    let long : ltb (length (text ++ rest)) (length text) ≡ false = le-ltb _ _ (omega (arith, length-append text rest)) in
    rw (
      laws.lengths.spelled_is_read max_frame (length text) spelling (text ++ rest) spelled short,
      dropped,
      long,
      take_at spelling (text ++ rest)
          (length spelling) refl,
      take_at text rest (length text) refl,
      drop_at text rest (length text) refl,
    ) refl

-- ---- an expiry

pub expiry_takes : LawsBelow → (bytes : List ℕ) (r : List ℕ × List ℕ) → expiry_at bytes ≡ Ok r → (bytes ≡ r.0 ++ r.1) × IsTimestamp r.0
unfolding expiry_at
expiry_takes laws bytes r e =
    let b = bind_ok (fixed_at 17 bytes) (λ text. as_field (timestamp_at text.0) >>= λ moment. Ok text) r e in
    let m = bind_ok (as_field (timestamp_at b.0.0)) (λ moment. Ok b.0) r b.2 in
    let t = fixed_takes 17 bytes b.0 b.1 in
    let d = laws.timestamps.read_is_timestamp b.0.0 m.0 (as_field_ok (timestamp_at b.0.0) m.0 m.1) in
    let same : b.0 ≡ r = same_ok b.0 r m.2 in
    subst (λ (q : List ℕ × List ℕ). (bytes ≡ q.0 ++ q.1) × IsTimestamp q.0) same (t.0, d.0)

pub expiry_again : LawsBelow → (text rest : List ℕ) → IsTimestamp text → expiry_at (text ++ rest) ≡ Ok (text, rest)
unfolding expiry_at
expiry_again laws text rest date =
    rw (fixed_again 17 text rest date.len, laws.timestamps.timestamp_is_read text date) refl

-- ---- a destination

pub destination_takes : LawsBelow → (bytes : List ℕ) (r : List ℕ × List ℕ × List ℕ) → destination_at bytes ≡ Ok r → (bytes ≡ r.0 ++ (r.1 ++ r.2)) × IsLength r.0 (length r.1) × IsAddress r.1
unfolding destination_at
destination_takes laws bytes r e =
    let b = bind_ok (string_at bytes) (λ s. as_field (address_at s.1) >>= λ address. Ok s) r e in
    let m = bind_ok (as_field (address_at b.0.1)) (λ address. Ok b.0) r b.2 in
    let t = string_takes laws bytes b.0 b.1 in
    let d = laws.addresses.read_is_address b.0.1 m.0 (as_field_ok (address_at b.0.1) m.0 m.1) in
    let same : b.0 ≡ r = same_ok b.0 r m.2 in
    subst (λ (q : List ℕ × List ℕ × List ℕ). (bytes ≡ q.0 ++ (q.1 ++ q.2)) × IsLength q.0 (length q.1) × IsAddress q.1) same (t.0, t.1, d.0)

pub destination_again : LawsBelow → (spelling text rest : List ℕ) → IsLength spelling (length text) → IsAddress text → destination_at (spelling ++ (text ++ rest)) ≡ Ok (spelling, text, rest)
unfolding destination_at
destination_again laws spelling text rest spelled address =
    rw (string_again laws spelling text rest spelled (omega (arith, address.short)), laws.addresses.address_is_read text address) refl

-- ---- data

pub data_takes : LawsBelow → (bytes : List ℕ) (r : List ℕ × List ℕ × List ℕ) → data_at bytes ≡ Ok r → (bytes ≡ r.0 ++ (r.1 ++ r.2)) × IsLength r.0 (length r.1) × (length r.1 ≤ 32768)
unfolding data_at
data_takes laws bytes r e =
    let b = bind_ok (string_at bytes) (λ s. cond (ltb 32768 (length s.1)) (Err Size) (Ok s)) r e in
    let t = string_takes laws bytes b.0 b.1 in
    let g = guard_ok (ltb 32768 (length b.0.1)) Size b.0 r b.2 in
    subst (λ (q : List ℕ × List ℕ × List ℕ). (bytes ≡ q.0 ++ (q.1 ++ q.2)) × IsLength q.0 (length q.1) × (length q.1 ≤ 32768)) g.1 (t.0, t.1, ltb-false _ _ g.0)

pub data_again : LawsBelow → (spelling text rest : List ℕ) → IsLength spelling (length text) → length text ≤ 32768 → data_at (spelling ++ (text ++ rest)) ≡ Ok (spelling, text, rest)
unfolding data_at
data_again laws spelling text rest spelled short =
    rw (string_again laws spelling text rest spelled (omega arith), le-ltb 32768 (length text) short) refl

-- ---- the envelope

whole_takes : LawsBelow → (bytes : List ℕ) (r : List ℕ × List ℕ) → whole_string bytes ≡ Ok r → (bytes ≡ r.0 ++ r.1) × IsLength r.0 (length r.1)
unfolding whole_string
whole_takes laws bytes r e =
    let b = bind_ok (string_at bytes) (λ s. cond (eqb (length s.2) 0) (Ok (s.0, s.1)) (Err AfterEnd)) r e in
    let t = string_takes laws bytes b.0 b.1 in
    let g = ok_if (eqb (length b.0.2) 0) AfterEnd (b.0.0, b.0.1) r b.2 in
    let nothing : b.0.2 ≡ [] = nil_from_length b.0.2 (eqb-true _ _ g.0) in
    let whole : bytes ≡ b.0.0 ++ b.0.1 = t.0 ∙ ap (λ (x : List ℕ). b.0.0 ++ (b.0.1 ++ x)) nothing ∙ ap (λ (x : List ℕ). b.0.0 ++ x) (append-nil b.0.1) in
    subst (λ (q : List ℕ × List ℕ). (bytes ≡ q.0 ++ q.1) × IsLength q.0 (length q.1)) g.1 (whole, t.1)

whole_again : LawsBelow → (spelling text : List ℕ) → IsLength spelling (length text) → length text ≤ 34000 → whole_string (spelling ++ text) ≡ Ok (spelling, text)
unfolding whole_string
whole_again laws spelling text spelled short =
    let ended : spelling ++ text ≡ spelling ++ (text ++ []) = ap (λ (x : List ℕ). spelling ++ x) (sym (append-nil text)) in
    let read : string_at (spelling ++ text) ≡ Ok (spelling, text, []) = ap string_at ended ∙ string_again laws spelling text [] spelled short in
    rw read refl

type_is : (kind b : ℕ) (read : Result (List ℕ × List ℕ) ViewFault) (r : List ℕ × List ℕ) → cond (eqb b kind) read (Err Kind) ≡ Ok r → (b ≡ kind) × (read ≡ Ok r)
type_is kind b read r e =
    elim (chosen (eqb b kind) read (Err Kind) (Ok r) e) [
      | inl p ↦ (eqb-true b kind p.0, p.1)
      | inr p ↦ absurd cc
    ]

behind_takes : LawsBelow → (kind : ℕ) (frame : List ℕ) (r : List ℕ × List ℕ) → behind_type kind frame ≡ Ok r → (frame ≡ kind ∷ r.0 ++ r.1) × IsLength r.0 (length r.1)
unfolding behind_type
behind_takes laws kind [] r e = absurd cc
behind_takes laws kind (b ∷ rest) r e =
    let read = type_is kind b (whole_string rest) r e in
    let w = whole_takes laws rest r read.1 in
    (ap (λ (k : ℕ). k ∷ rest) read.0 ∙ ap (λ (x : List ℕ). kind ∷ x) w.0, w.1)

pub envelope_takes : LawsBelow → (kind : ℕ) (frame : List ℕ) (r : List ℕ × List ℕ) → envelope_at kind frame ≡ Ok r → IsFrame frame kind r.0 r.1
unfolding envelope_at
envelope_takes laws kind frame r e =
    elim (chosen (ltb 34000 (length frame)) (Err Size) (behind_type kind frame) (Ok r) e) [
      | inl p ↦ absurd cc
      | inr p ↦
          let b = behind_takes laws kind frame r p.1 in
          record { bytes = b.0; spelled = b.1; size = ltb-false _ _ p.0 }
    ]

pub envelope_again : LawsBelow → (kind : ℕ) (frame spelling contents : List ℕ) → IsFrame frame kind spelling contents → envelope_at kind frame ≡ Ok (spelling, contents)
unfolding envelope_at behind_type
envelope_again laws kind frame spelling contents f =
    let len : length (kind ∷ spelling ++ contents) ≡ length (kind ∷ spelling) + length contents = length-append (kind ∷ spelling) contents in
    let size : length (kind ∷ spelling ++ contents) ≤ 34000 = omega (arith, f.size, ap length f.bytes) in
    let short : length contents ≤ 34000 = omega arith in
    ap (envelope_at kind) f.bytes ∙ rw (le-ltb 34000 (length (kind ∷ spelling ++ contents)) size, eq-eqb kind kind refl) (whole_again laws spelling contents f.spelled short)
