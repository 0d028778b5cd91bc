use Rattle.std.proofs.Common.{◌≡◌, ℕ, Some, None, arith, length, refl, sym, ◌∙◌, subst}
use Rattle.std.proofs.lemmas.Option.{slice_get_read}
use Rattle.receipts.specs.Layout.{place_in}
use Rattle.receipts.proofs.Joins.{noted, twice_there}
use Rattle.receipts.proofs.Places.{is_there, is_none_there}
use Rattle.receipts.proofs.chains.note.Goals as goal

pub returns-then-is_some-clause-gap : goal.returns-then-is_some-clause-gap
returns-then-is_some-clause-gap c =
    let q = c.index-periods-k.result in
    let below = c.requires.inside in
    let there = slice_get_read c.args.periods.now (length c.args.periods.now) c.args.k q refl (omega arith) c.index-periods-k.is in
    let found = is_there c.place.result (sym c.is_some.ensures ∙ c.if-is_some.true) in
    let P : ℕ → ℕ → Type 0 = λ t n. place_in c.args.index.now t n ≡ Some found.0 in
    let at : P c.tenant.result c.number.result = sym c.place.ensures ∙ found.1 in
    twice_there c.args.index.now c.args.periods.now c.args.k found.0 q c.requires.index there
    (subst (λ n. P q.opening.tenant n) c.number.ensures (subst (λ t. P t c.number.result) c.tenant.ensures.value at))

pub returns-clause-more : goal.returns-clause-more
returns-clause-more c =
    let p = c.index-periods-k.result in
    let below = c.requires.inside in
    let there = slice_get_read c.args.periods.now (length c.args.periods.now) c.args.k p refl (omega arith) c.index-periods-k.is in
    let none = is_none_there c.place.result (sym c.is_some.ensures ∙ c.if-is_some.false) in
    let P : ℕ → ℕ → Type 0 = λ t n. place_in c.args.index.now t n ≡ None in
    let at : P c.tenant.result c.number.result = sym c.place.ensures ∙ none in
    let Q : ℕ → ℕ → Type 0 = λ t n. place_in c.insert.new.self t n ≡ Some c.args.k in
    let R : ℕ → ℕ → Type 0 = λ t n. (u m : ℕ) → ¬ ((u ≡ t) × (m ≡ n)) → place_in c.insert.new.self u m ≡ place_in c.args.index.now u m in
    noted c.args.index.now c.insert.new.self c.args.periods.now c.args.k p c.requires.index there
    (subst (λ n. P p.opening.tenant n) c.number.ensures (subst (λ t. P t c.number.result) c.tenant.ensures.value at))
    c.in_ok-insert.ensures.index
    (subst (λ n. Q p.opening.tenant n) c.number-2.ensures (subst (λ t. Q t c.number-2.result) c.tenant-2.ensures.value c.in_ok-insert.ensures.there))
    (subst (λ n. R p.opening.tenant n) c.number-2.ensures (subst (λ t. R t c.number-2.result) c.tenant-2.ensures.value c.in_ok-insert.ensures.others))
