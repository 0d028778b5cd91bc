-- A line that is written is taken up as the record that it is, and is no sum.
use Rattle.std.proofs.Common.{◌≡◌, ℕ, false, List, [], ◌∷◌, ◌++◌, take, drop, sym, ap, subst, ◌∙◌, inl, inr}
use Rattle.std.specs.Prelude.{Some, codes, slice_set}
use Rattle.std.specs.Str.{bytes_eq}
use Rattle.std.proofs.lemmas.Bool.{cases_Bool}
use Rattle.std.proofs.lemmas.List.{take-append-drop}
use Rattle.std.proofs.lemmas.Option.{same_Some, some_pair_parts}
use Rattle.std.proofs.lemmas.Slice.Eq.{bytes_eq-Decides}
use Rattle.book_recovery.specs.Recovery.{after_record}
use Rattle.common_types.specs.Numerals.{number_in}
use Rattle.statements.specs.Reading.{number_read, text_lines}
use Rattle.tenant_core.specs.Replay.{outcome_of}
use Rattle.tenant_core.specs.State.{State}
use Rattle.tenant_core.specs.declared.journal.Entry.{Entry}
use Rattle.tenant_core.specs.declared.journal.Outcome.{Outcome}
use Rattle.book_log.specs.Lines.{AreTaken, IsTaken, place_of}
use Rattle.book_log.specs.Reading.{line_said, place_read}
use Rattle.book_log.specs.Sums.{is_sum}
use Rattle.book_log.specs.Written.{AreWritten, IsWritten}
use Rattle.book_log.specs.declared.line.LinePlace.{LinePlace}
use Rattle.book_log.proofs.LinesBack.{Laws, line_back, one_line}

-- what a line that is written says
said_of : Laws → (line : List ℕ) (before after : List State) (w : IsWritten line before after)
    → line_said line ≡ Some (place_of w.state, w.next.entry)
said_of laws line before after w = line_back laws (place_of w.state) w.next line w.place w.loggable w.is_line

same_outcome : (s t : State) (e f : Entry) (o p : Outcome) → s ≡ t → e ≡ f → outcome_of s e ≡ Some o → outcome_of t f ≡ Some p → o ≡ p
same_outcome s t e f o p states entries one other =
    same_Some o p (sym one ∙ (λ i. outcome_of (states i) (entries i)) ∙ other)

pub one_end : Laws → (line : List ℕ) (before after other : List State) → IsWritten line before after → IsTaken line before other
    → other ≡ after
one_end laws line before after other w t =
    let n = t.is_next in
    let both = some_pair_parts (place_of t.state) (place_of w.state) n.next.entry w.next.entry (sym n.said ∙ said_of laws line before after w) in
    let number : t.tenant ≡ w.tenant = sym t.number ∙ ap (λ (p : LinePlace). p.tenant) both.0 ∙ w.number in
    let states : t.state ≡ w.state = cc (t.its_own, w.its_own, number) in
    let outcomes : n.next.outcome ≡ w.next.outcome =
    same_outcome t.state w.state n.next.entry w.next.entry n.next.outcome w.next.outcome states both.1 n.leads w.leads in
    let records : n.next ≡ w.next = λ i. record { entry = both.1 i; outcome = outcomes i } in
    t.left ∙ ap (λ (s : State). slice_set before t.tenant s) n.left
    ∙ (λ i. slice_set before (number i) (after_record (states i) (records i)))
    ∙ sym w.left

pub one_end_of_all : Laws → (ls : List (List ℕ)) (before after other : List State) → AreWritten ls before after → AreTaken ls before other
    → other ≡ after
one_end_of_all laws [] before after other w t = sym t ∙ w
one_end_of_all laws (l ∷ ls) before after other w t =
    one_end_of_all laws ls w.0 after other w.2
    (subst (λ (s : List State). AreTaken ls s other) (one_end laws l before w.0 t.0 w.1 t.1) t.2)

-- ---- what the text of a line is

pub written_line : Laws → (line : List ℕ) (before after : List State) → IsWritten line before after
    → (text : List ℕ) → text_lines (line ++ 10 ∷ text) ≡ line ∷ text_lines text
written_line laws line before after w = one_line laws (place_of w.state) w.next line w.place w.loggable w.is_line

nothing_said : (rest : List ℕ) (v : LinePlace × Entry) → line_said (codes "sum " ++ rest) ≡ Some v → ⊥
unfolding line_said place_read number_read number_in
nothing_said rest v is = absurd (cc is)

no_sum_said : (line : List ℕ) (v : LinePlace × Entry) → line_said line ≡ Some v → is_sum line ≡ false
unfolding is_sum
no_sum_said line v is =
    elim (cases_Bool (bytes_eq (take 4 line) (codes "sum "))) [
      | inr other ↦ other
      | inl sum ↦
          let text : codes "sum " ++ drop 4 line ≡ line =
          ap (λ (t : List ℕ). t ++ drop 4 line) (sym ((bytes_eq-Decides (take 4 line) (codes "sum ")).0 sum)) ∙ take-append-drop 4 line in
          absurd (nothing_said (drop 4 line) v (ap line_said text ∙ is))
    ]

pub written_no_sum : Laws → (line : List ℕ) (before after : List State) → IsWritten line before after → is_sum line ≡ false
written_no_sum laws line before after w = no_sum_said line (place_of w.state, w.next.entry) (said_of laws line before after w)
