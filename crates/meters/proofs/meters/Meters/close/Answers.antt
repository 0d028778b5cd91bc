use Rattle.std.proofs.Common.{◌≡◌, ℕ, ◌≤◌, List, slice_index, ◌∙◌, ap, sym, arith}
use Rattle.meters.specs.Counts.{word_of}
use Rattle.meters.specs.Seats.{MetersState, SeatState, count_of, total_of}
use Rattle.meters.proofs.Words.{closed_at, close_exact, close_least}
use Rattle.meters.proofs.meters.Meters.close.Goals as goal

pub returns-clause-exact : goal.returns-clause-exact
returns-clause-exact c first same t k lt =
    let final = c.close_with-closed.ensures.values.2 in
    let mine = c.seat.inside.seat in
    let tenants = ap (λ (m : MetersState). m.tenants) c.self.view_is in
    let joins = ap (λ (s : SeatState). s.joins) c.seat.view_is in
    let splits = ap (λ (s : SeatState). s.splits) c.seat.view_is in
    let leads = ap (λ (s : SeatState). s.first) c.seat.view_is ∙ first in
    let P : ℕ → Type 0 = λ n. n ≡ count_of t k c.args.seat in
    let exact = close_exact _ final.0 final.1.0 mine.id mine.me.0 leads (omega arith) final.1.1 t k (omega (arith, c.self.invariant.0)) in
    ap (total_of t k) c.new.ensures
    ∙ closed_at _ c.words_of-counts.result c.self.inside.tenants t k P (omega arith) c.words_of-counts.ensures
    (ap (λ (ws : List ℕ). slice_index ws (word_of t k)) (sym final.2) ∙ (exact ∙ ap (count_of t k) c.seat.view_is))

pub returns-clause-least : goal.returns-clause-least
returns-clause-least c t k lt =
    let final = c.close_with-closed.ensures.values.2 in
    let mine = c.seat.inside.seat in
    let tenants = ap (λ (m : MetersState). m.tenants) c.self.view_is in
    let counts = ap (count_of t k) c.seat.view_is in
    let total = ap (total_of t k) c.new.ensures in
    let words = ap (λ (ws : List ℕ). slice_index ws (word_of t k)) final.2 in
    let P : ℕ → Type 0 = λ n. count_of t k c.args.seat ≤ n in
    let least = close_least _ final.0 final.1.0 mine.id mine.me.0 final.1.1 t k (omega (arith, c.self.invariant.0)) in
    let read = closed_at _ c.words_of-counts.result c.self.inside.tenants t k P (omega arith) c.words_of-counts.ensures (omega arith) in
    omega arith
