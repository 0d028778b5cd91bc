use Rattle.std.proofs.Common.{◌<◌, Some, None, length, subst, arith}
use Rattle.tenant_core.specs.declared.period.PeriodParts.{PeriodParts}
use Rattle.receipts.proofs.Joins.{one_there}
use Rattle.receipts.proofs.Naming.{entry_at, entry_within}
use Rattle.receipts.proofs.check.is_held_at.Goals as goal

pub overflow_add-offsets : goal.overflow_add-offsets
overflow_add-offsets c =
    let within = entry_within c.args.laid.now c.args.holders.now c.args.k c.args.n c.tenant-tenant.result c.requires.there.0 c.index-periods-k.result c.requires.index c.requires.rows c.requires.there.1 c.requires.there.2
    c.index-periods-k.is c.tenant-tenant.ensures.value in
    let entries = c.entries.ensures in
    let fits = c.entries.type_inv in
    omega arith

pub is_held-requires : goal.is_held-requires
is_held-requires c =
    entry_within c.args.laid.now c.args.holders.now c.args.k c.args.n c.tenant-tenant.result c.requires.there.0 c.index-periods-k.result c.requires.index c.requires.rows c.requires.there.1 c.requires.there.2
    c.index-periods-k.is c.tenant-tenant.ensures.value

pub returns-clause-whole : goal.returns-clause-whole
returns-clause-whole c = λ held p there.
    let same = one_there c.args.laid.now.periods.now c.args.k c.requires.there.0 p c.requires.there.1 there in
    let below = subst (λ (q : PeriodParts). c.args.n < length q.records) same c.requires.there.2 in
    let h = c.is_held.ensures.held held in
    (h.0, entry_at c.args.laid.now c.args.holders.now c.args.k c.args.n c.tenant-tenant.result p c.index-periods-k.result (Some h.0) c.requires.index c.requires.rows there below c.index-periods-k.is c.tenant-tenant.ensures.value h.1)

pub returns-clause-nowhere : goal.returns-clause-nowhere
returns-clause-nowhere c = λ free p there.
    let same = one_there c.args.laid.now.periods.now c.args.k c.requires.there.0 p c.requires.there.1 there in
    let below = subst (λ (q : PeriodParts). c.args.n < length q.records) same c.requires.there.2 in
    entry_at c.args.laid.now c.args.holders.now c.args.k c.args.n c.tenant-tenant.result p c.index-periods-k.result None c.requires.index c.requires.rows there below c.index-periods-k.is c.tenant-tenant.ensures.value
    (c.is_held.ensures.free free)
