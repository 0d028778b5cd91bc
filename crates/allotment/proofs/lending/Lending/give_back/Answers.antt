use Rattle.std.proofs.Common.{◌≡◌, ◌+◌, ◌<◌, length, refl, slice_index, slice_set, subst, sym, arith}
use Rattle.std.proofs.lemmas.List.{get_or-set_same}
use Rattle.allotment.specs.Waits.{Queued}
use Rattle.allotment.specs.WaitsKept.{queued_of}
use Rattle.allotment.proofs.Queue.{queue_kept_at}
use Rattle.allotment.proofs.lending.Lending.give_back.Goals as goal
use Rattle.allotment.proofs.lending.Lending.give_back.Goals.{then-common, else-common}

pub raise-requires-clause-fits : goal.raise-requires-clause-fits
raise-requires-clause-fits c =
    let kept = c.self.inside.kept.items in
    let more = slice_index kept c.in-Some.next + 1 in
    let after = queue_kept_at (queued_of c.self.inside) c.args.self.now c.self.view_is c.args.tenant c.in-Some.next _ c.give_back-common.new.self c.try_take.new.self
    c.lower.new.numbers.items (slice_set kept c.in-Some.next more)
    c.self.invariant c.requires.tenant c.requires.uses c.in-Some.ensures.there c.in-Some.ensures.own c.in-Some.ensures.waits c.in-Some.ensures.granted
    c.give_back-common.ensures.given c.try_take.ensures.taken c.lower.ensures refl c.self.invariant.turn in
    let Q : Queued → Type 0 = λ q. c.in-Some.next < length q.loans.used in
    let there = subst Q (sym c.self.view_is) c.in-Some.ensures.there in
    let is_in : c.in-Some.next < length kept = omega (arith, c.self.invariant.all_kept, there) in
    let is : slice_index (slice_set kept c.in-Some.next more) c.in-Some.next ≡ more = get_or-set_same kept c.in-Some.next more 0 is_in in
    omega (arith, is, after.used c.in-Some.next, c.try_take.ensures.few)

pub invariant_of-self : goal.invariant_of-self
invariant_of-self c =
    let T : Queued → Type 0 = λ q. c.if-common.self < length q.loans.used in
    let now : c.if-common.self < length c.args.self.now.loans.used = elim c.if-common.branch [
      | then-common w ↦ (let e = w.self-is in let b = w.behind-self-inside.ensures.there in omega (arith, e, b, c.tenants-tenants.ensures))
      | else-common w ↦ subst T c.self.view_is (let e = w.self-is in omega (arith, e, c.self.invariant.turn))
    ] in
    let is_turn = subst T (sym c.self.view_is) now in
    queue_kept_at (queued_of c.self.inside) c.args.self.now c.self.view_is c.args.tenant c.in-Some.next _ c.give_back-common.new.self c.try_take.new.self _ _
    c.self.invariant c.requires.tenant c.requires.uses c.in-Some.ensures.there c.in-Some.ensures.own c.in-Some.ensures.waits c.in-Some.ensures.granted
    c.give_back-common.ensures.given c.try_take.ensures.taken c.lower.ensures c.raise.ensures is_turn

pub returns-after-common-clause-nobody : goal.returns-after-common-clause-nobody
returns-after-common-clause-nobody c =
    (queue_kept_at (queued_of c.self.inside) c.args.self.now c.self.view_is c.args.tenant c.in-Some.next c.self.inside.turn c.give_back-common.new.self c.try_take.new.self
    c.lower.new.numbers.items c.raise.new.numbers.items
    c.self.invariant c.requires.tenant c.requires.uses c.in-Some.ensures.there c.in-Some.ensures.own c.in-Some.ensures.waits c.in-Some.ensures.granted
    c.give_back-common.ensures.given c.try_take.ensures.taken c.lower.ensures c.raise.ensures c.self.invariant.turn).in_vain
