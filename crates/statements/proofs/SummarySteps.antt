-- What a chain tells is what its statements come to.
use Rattle.std.proofs.Common.{◌≡◌, ℕ, ◌+◌, List, [], ◌∷◌, length, map, refl, ap, ◌∙◌, arith}
use Rattle.std.specs.Prelude.{Option, Some, None}
use Rattle.statements.specs.Chain.{IsChain, Link, due_behind, lines_behind, periods_in, records_in, records_of}
use Rattle.statements.specs.Due.{due_after}
use Rattle.statements.specs.Line.{line_of, line_under, line_with, lines_after, lines_with, newcomers, told_both, told_of}
use Rattle.statements.specs.Seen.{seen_before}
use Rattle.statements.specs.Summary.{chain_text, chain_lines, summary_text, told_by}
use Rattle.statements.specs.declared.chain.Chain.{Chain}
use Rattle.statements.specs.declared.due.Due.TheVariants.{Anything}
use Rattle.statements.specs.declared.line.Line.{Line}
use Rattle.statements.specs.declared.line.PeerSums.{PeerSums}
use Rattle.statements.specs.declared.seen.PeerSeen.{PeerSeen}
use Rattle.tenant_core.specs.declared.period.PeriodParts.{PeriodParts}

told_same : (links : List Link) (c : Chain) (is : IsChain links c) (n : ℕ)
    → told_by c n ≡ told_of (due_after (due_behind Anything is.done) is.periods) is.periods n
told_same links c is n =
    let due = is.due in
    let came = is.totals.came n in
    let fulfilled_in = is.totals.fulfilled_in n in
    let settled_in = is.totals.settled_in n in
    let went = is.totals.went n in
    let fulfilled_out = is.totals.fulfilled_out n in
    let settled_out = is.totals.settled_out n in
    let fees = is.totals.fees n in
    cc

alike : {A B : Type 0} (f g : A → B) → ((x : A) → f x ≡ g x) → (xs : List A) → map f xs ≡ map g xs
alike f g same [] = refl
alike f g same (x ∷ xs) = rw (same x, alike f g same xs) refl

under_same : (told other : ℕ → PeerSums) → ((n : ℕ) → told n ≡ other n) → (l : Line) (here : Option ℕ)
    → line_under told l here ≡ line_under other l here
under_same told other same l None = refl
under_same told other same l (Some n) = ap (λ (t : PeerSums). let x : Line = record l { told = told_both l.told t } in x) (same n)

with_same : (told other : ℕ → PeerSums) → ((n : ℕ) → told n ≡ other n) → (ls : List Line) (first added : List PeerSeen)
    → lines_with told ls first added ≡ lines_with other ls first added
with_same told other same ls first added =
    let before : map (line_with told) ls ≡ map (line_with other) ls =
    alike (line_with told) (line_with other) (λ (l : Line). under_same told other same l l.here) ls in
    let rest : map (line_of told) (newcomers ls first added) ≡ map (line_of other) (newcomers ls first added) =
    alike (line_of told) (line_of other)
    (λ (s : PeerSeen). ap (λ (t : PeerSums). let x : Line = record { seen = s; here = Some s.number; told = t } in x) (same s.number))
    (newcomers ls first added) in
    rw (before, rest) refl

pub lines_are : (links : List Link) (c : Chain) (is : IsChain links c)
    → chain_lines c ≡ lines_after (lines_behind [] Anything is.done) (due_behind Anything is.done) is.periods
lines_are links c is =
    let told : ℕ → PeerSums = told_of (due_after (due_behind Anything is.done) is.periods) is.periods in
    with_same (told_by c) told (told_same links c is) c.past.lines.items c.totals.first.items c.totals.added.items
    ∙ (ap (λ (ls : List Line). lines_with told ls c.totals.first.items c.totals.added.items) is.past_lines
    ∙ (ap (λ (ps : List PeerSeen). lines_with told (lines_behind [] Anything is.done) ps c.totals.added.items) is.totals.first
    ∙ ap (λ (ps : List PeerSeen). lines_with told (lines_behind [] Anything is.done) (seen_before is.periods) ps) is.totals.added))

pub chain_text_is : (links : List Link) (c : Chain) (is : IsChain links c) → chain_text c ≡ summary_text is.done is.periods
chain_text_is links c is =
    let ps : List PeriodParts = is.periods in
    let periods : c.past.periods + c.totals.periods ≡ periods_in is.done + length ps =
    let a = is.past_periods in let b = is.totals.periods in omega arith in
    let entries : c.past.entries + c.totals.entries ≡ records_in is.done + records_of ps =
    let a = is.past_records in let b = is.totals.entries in omega arith in
    rw (periods, entries, lines_are links c is) refl
