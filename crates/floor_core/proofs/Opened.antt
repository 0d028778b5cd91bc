-- A floor on which nothing has happened is whole.
use Rattle.std.proofs.Common.{◌≡◌, ◌≢◌, ◌<◌, ◌+◌, ℕ, zero, suc, List, [], ◌∷◌, ◌++◌, length, get_or, Option, Some, None, refl, inl, inr, sym, ap, ◌∙◌, arith, replicate, length-append}
use Rattle.std.proofs.Math.ListN.{get_or-append}
use Rattle.std.proofs.Math.Seq.{get_or-append_seam}
use Rattle.std.proofs.lemmas.Bool.Decides.{eqb_tells}
use Rattle.std.specs.List.{slice_get}
use Rattle.std.proofs.lemmas.Option.{slice_get_cases}
use Rattle.std.proofs.lemmas.List.{get_or_past, get_or_default, length-replicate}
use Rattle.tenant_core.specs.Network.{nobody}
use Rattle.tenant_core.specs.State.{State, opened, opening_of}
use Rattle.tenant_core.specs.declared.terms.TenantTerms.{TenantTerms}
use Rattle.floor_core.specs.FloorView.{FloorState, no_seat, carried_at, carried_by, calls_of, hand_by, tenant_of, IsWhole, IsNewFloor}
use Rattle.floor_core.specs.Work.{Job, IsJobOfBytes, IsReadable}
use Rattle.floor_core.specs.World.{Stage, tenant_at_start, no_book}
use Rattle.floor_core.specs.declared.floor.Seat.{Seat}
use Rattle.floor_core.proofs.Calls.{none}

-- seats that carry nothing
pub record AreFree (seats : List Seat) : Type 0 where
  pub free : (w : ℕ) → (get_or seats w no_seat).slot.job ≡ Job.NoJob

pub free_push : (seats : List Seat) (x : Seat) → x.slot.job ≡ Job.NoJob → ((w : ℕ) → (get_or seats w no_seat).slot.job ≡ Job.NoJob) → (w : ℕ) → (get_or (seats ++ x ∷ []) w no_seat).slot.job ≡ Job.NoJob
free_push [] x e h zero = e
free_push [] x e h (suc w) = refl
free_push (y ∷ seats) x e h zero = h 0
free_push (y ∷ seats) x e h (suc w) = free_push seats x e (λ v. h (suc v)) w

carries_none : (seats : List Seat) → AreFree seats → (w : ℕ) (c : ℕ × ℕ) → carried_at seats w ≢ Some c
carries_none seats a w c e = let n : carried_at seats w ≡ None = ap (λ j. carried_by j (get_or seats w no_seat).call) (a.free w) in absurd cc

no_calls : (seats : List Seat) → AreFree seats → (t n : ℕ) → calls_of t seats n ≡ None
no_calls seats a t n = none seats t n (λ v. carries_none seats a v (t, n))

unsent : (o : Option Stage) (hold : ℕ) → o ≡ None → o ≢ Some (Stage.Sent hold)
unsent o hold n e = cc

readable : (job : Job) → job ≡ Job.NoJob → IsReadable job
readable job e = rw e tt

octets : (job : Job) → job ≡ Job.NoJob → IsJobOfBytes job
octets job e = rw e tt

pub whole : (f : FloorState) → length f.next_calls ≡ length f.books → AreFree f.seats → ((t : ℕ) → t < length f.books → (get_or f.books t no_book).opening.tenant ≡ t) → IsWhole f
whole f same a placed = record {
  sound = record {
    as_many = same;
    placed = placed;
    apart = λ v w c p q. absurd (carries_none f.seats a v c p);
    below = λ w c p. absurd (carries_none f.seats a w c p);
    readable = λ w. readable (get_or f.seats w no_seat).slot.job (a.free w);
    octets = λ w. octets (get_or f.seats w no_seat).slot.job (a.free w);
  };
  tenants = λ t. record {
    waits = λ n hold p. absurd (unsent (calls_of t f.seats n) hold (no_calls f.seats a t n) p);
    apart = λ n m hold p q. absurd (unsent (calls_of t f.seats n) hold (no_calls f.seats a t n) p);
  };
}

-- the books of the first n of these setups
pub record AreOpened (setups : List TenantTerms) (start n : ℕ) (books : List State) : Type 0 where
  pub count : length books ≡ n
  pub each : (t : ℕ) (terms : TenantTerms) → t < n → get_or books t no_book ≡ opened (opening_of t (get_or setups t terms) start)

pub opened_push : (setups : List TenantTerms) (start n : ℕ) (books : List State) (x : State) (item : TenantTerms) → n < length setups → item ≡ get_or setups n item → x ≡ opened (opening_of n item start)
    → AreOpened setups start n books → AreOpened setups start (n + 1) (books ++ x ∷ [])
opened_push setups start n books x item lt is e o = record {
  count = length-append books (x ∷ []) ∙ ap (λ k. k + 1) o.count;
  each = λ t terms below. elim (eqb_tells t n) [
    | inl a ↦
        let last : get_or (books ++ x ∷ []) n no_book ≡ x = ap (λ k. get_or (books ++ x ∷ []) k no_book) (sym o.count) ∙ get_or-append_seam books x [] no_book in
        let terms_is : item ≡ get_or setups n terms = is ∙ get_or_default setups n item terms lt in
        rw a.1 (last ∙ e ∙ ap (λ (z : TenantTerms). opened (opening_of n z start)) terms_is)
    | inr a ↦
        let ne = a.1 in
        let before : t < n = omega arith in
        let c = o.count in
        get_or-append books (x ∷ []) no_book t (omega arith) ∙ o.each t terms before
  ];
}

-- what a tenant that is not there would say
abbrev no_terms : TenantTerms
no_terms = record { name = []; address = []; admin = []; journal = 0; margin = 0; hold = 0; network = nobody }

-- each book stands at its tenant's number
placed_by : (setups : List TenantTerms) (start : ℕ) (books : List State) → AreOpened setups start (length setups) books → (t : ℕ) → t < length books → (get_or books t no_book).opening.tenant ≡ t
placed_by setups start books o t lt = ap (λ (s : State). s.opening.tenant) (o.each t no_terms (let c = o.count in omega arith))

zeros : (n t : ℕ) → ◌≡◌ {A = ℕ} (get_or (replicate n 0) t 0) 0
zeros zero t = refl
zeros (suc n) zero = refl
zeros (suc n) (suc t) = zeros n t

-- a floor of free seats and the books of all setups
pub record New (setups : List TenantTerms) (start workers : ℕ) (f : FloorState) : Type 0 where
  pub is_new : IsNewFloor setups start workers f
  pub is_whole : IsWhole f

-- each tenant of a floor of free seats stands at its start
begun : (setups : List TenantTerms) (start : ℕ) (f : FloorState) → AreFree f.seats → AreOpened setups start (length setups) f.books → f.next_calls ≡ replicate (length f.books) 0
    → (t : ℕ) → tenant_of f t ≡ tenant_at_start start t (slice_get setups t)
begun setups start f a o z t =
    let next : get_or f.next_calls t 0 ≡ 0 = ap (λ xs. get_or xs t 0) z ∙ zeros (length f.books) t in
    elim (slice_get_cases setups t).1 [
      | inl i ↦
          let book : get_or f.books t no_book ≡ opened (opening_of t i.0 start) = o.each t i.0 i.1 ∙ ap (λ (x : TenantTerms). opened (opening_of t x start)) i.3 in
          rw i.2 (λ k. record { book = book k; next_call = next k; calls = λ c. no_calls f.seats a t c k })
      | inr p ↦
          let c = o.count in
          let book : get_or f.books t no_book ≡ no_book = get_or_past f.books t no_book (let past = p.0 in omega arith) in
          rw p.1 (λ k. record { book = book k; next_call = next k; calls = λ c. no_calls f.seats a t c k })
    ]

pub new : (setups : List TenantTerms) (start workers : ℕ) (f : FloorState) → length f.seats ≡ workers → AreFree f.seats → ((w : ℕ) → (get_or f.seats w no_seat).slot.reply ≡ [])
    → AreOpened setups start (length setups) f.books → f.next_calls ≡ replicate (length f.books) 0 → New setups start workers f
new setups start workers f n a silent o z = record {
  is_new = record {
    workers_are = n;
    tenants_are = o.count;
    world = λ i. record { tenants = λ t. begun setups start f a o z t i; hands = λ w. hand_by (a.free w i) (get_or f.seats w no_seat).call };
    silent = silent;
  };
  is_whole = whole f (ap length z ∙ length-replicate (length f.books) 0) a (placed_by setups start f.books o);
}
