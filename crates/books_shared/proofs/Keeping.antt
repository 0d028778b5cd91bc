-- What a share keeps when a call is counted: the tallies of its steps, and their receipts.
use Rattle.std.proofs.Common.{◌≡◌, ◌≤◌, ◌<◌, ◌==◌, ℕ, ◌+◌, ◌-◌, zero, suc, cond, Bool, true, false, List, [], ◌∷◌, ◌++◌, length, get_or, set, refl, inl, inr, sym, ap, subst, ◌∙◌, arith}
use Rattle.std.proofs.lemmas.Bool.Decides.{eqb_tells}
use Rattle.std.proofs.lemmas.Grind.{get_or-set_at}
use Rattle.std.proofs.lemmas.List.{append-nil, get_or-set_other, map-append}
use Rattle.std.proofs.lemmas.List.Sums.{sum_by-append, sum_by-cons}
use Rattle.std.specs.Prelude.{Option, Some, None, count_by, fold}
use Rattle.tenant_core.specs.Journals.{last_of}
use Rattle.tenant_core.specs.declared.journal.Record.{Record}
use Rattle.one_list.specs.Steps.{Place, done, done_by, done_last, last_place}
use Rattle.one_list.specs.declared.step.Done.{Done}
use Rattle.receipts.specs.Ledgers.{LedgerView, last_receipt}
use Rattle.books_shared.specs.ShareKept.{AreTallied, HasKept, IsLedgerOf}
use Rattle.books_shared.specs.Shares.{receipts_told}
use Rattle.books_shared.specs.Tracing.{steps_appended}

-- ---- tallies

-- where there are records, there is a last one
last_behind : (x : Record) (xs : List Record) → (r : Record) × (fold (λ o z. Some z) (Some x) xs ≡ Some r)
last_behind x [] = (x, refl)
last_behind x (y ∷ ys) = last_behind y ys

there_is : (records : List Record) → 0 < length records → (r : Record) × (last_of records ≡ Some r)
there_is [] some = absurd (omega arith)
there_is (x ∷ xs) some = last_behind x xs

either_way : (b : Bool) (n : ℕ) → n ≡ cond b n n
either_way true n = refl
either_way false n = refl

one_by : (w : ℕ) (at : Place) (o : Option Record) (r : Record) (t : ℕ) → o ≡ Some r
    → count_by (λ e. e.tenant == t) (done_by w at o) ≡ cond (at.tenant == t) 1 0
one_by w at o r t e =
    ap (λ z. count_by (λ (d : Done). d.tenant == t) (done_by w at z)) e
    ∙ omega (arith, sum_by-cons (λ (d : Done). cond (d.tenant == t) 1 0) (done w at r) [])

-- of what is told of a call that appended so many entries, as many are the tenant's
told_many : (n w tenant period : ℕ) (records : List Record) (t : ℕ) → n ≤ 1 → n ≤ length records
    → count_by (λ e. e.tenant == t) (steps_appended n w tenant period records) ≡ cond (tenant == t) n 0
told_many zero w tenant period records t few there = either_way (tenant == t) 0
told_many (suc n) w tenant period records t few there =
    let last = there_is records (omega arith) in
    let one : 1 ≡ suc n = omega arith in
    one_by w (last_place tenant period records) (last_of records) last.0 t last.1 ∙ ap (λ k. cond (tenant == t) k 0) one

pub tally_more : (counts : List ℕ) (steps : List Done) (n w tenant period : ℕ) (records : List Record) → AreTallied counts steps
    → tenant < length counts → n ≤ 1 → n ≤ length records
    → AreTallied (set counts tenant (get_or counts tenant 0 + n)) (steps ++ steps_appended n w tenant period records)
tally_more counts steps n w tenant period records tallied inside few there t below =
    let more = sum_by-append (λ (e : Done). cond (e.tenant == t) 1 0) steps (steps_appended n w tenant period records) in
    let told = told_many n w tenant period records t few there in
    let before = tallied t below in
    elim (eqb_tells tenant t) [
      | inl a ↦
          let here : get_or (set counts tenant (get_or counts tenant 0 + n)) t 0 ≡ get_or counts tenant 0 + n =
          get_or-set_at counts tenant t (get_or counts tenant 0 + n) 0 (sym a.1) inside in
          let same : get_or counts tenant 0 ≡ get_or counts t 0 = ap (λ i. get_or counts i 0) a.1 in
          let own : cond (tenant == t) n 0 ≡ n = ap (λ b. cond b n 0) a.0 in
          omega (arith, more, told, before, here, same, own)
      | inr a ↦
          let here : get_or (set counts tenant (get_or counts tenant 0 + n)) t 0 ≡ get_or counts t 0 =
          get_or-set_other counts tenant t (get_or counts tenant 0 + n) 0 (λ is. a.1 (sym is)) in
          let none : cond (tenant == t) n 0 ≡ 0 = ap (λ b. cond b n 0) a.0 in
          omega (arith, more, told, before, here, none)
    ]

-- ---- receipts

-- nothing more is kept
pub kept_none : (ledger : Option LedgerView) → HasKept ledger ledger []
kept_none None = refl
kept_none (Some l) = (sym (append-nil l.receipts), omega arith)

receipt_by : (w : ℕ) (tenant period : ℕ) (records : List Record) (o : Option Record) → last_of records ≡ o
    → receipts_told (done_by w (last_place tenant period records) o) ≡ last_receipt tenant period records
receipt_by w tenant period records None e = rw e refl
receipt_by w tenant period records (Some r) e = rw e refl

-- the receipt of the last record is that of the step that is told
pub receipt_last : (w tenant period : ℕ) (records : List Record)
    → last_receipt tenant period records ≡ receipts_told (done_last w tenant period records)
receipt_last w tenant period records = sym (receipt_by w tenant period records (last_of records) refl)

pub kept_more : (before after : Option LedgerView) (steps more : List Done) (room : ℕ) → IsLedgerOf before steps room
    → HasKept before after (receipts_told more) → IsLedgerOf after (steps ++ more) (room - 1)
kept_more None after steps more room was kept = subst (λ o. IsLedgerOf o (steps ++ more) (room - 1)) (sym kept) tt
kept_more (Some b) (Some a) steps more room was kept = (
  kept.0 ∙ (ap (λ l. l ++ receipts_told more) was.0 ∙ sym (map-append _ steps more)),
  (let roomy = kept.1 in let had = was.1 in omega arith),
)
kept_more (Some b) None steps more room was kept = absurd kept
