use Rattle.std.proofs.Common.{arith, rules, ◌≡◌, ◌<◌, ◌++◌, length, ap, sym, subst, IsOk}
use Rattle.std.proofs.lemmas.Grind.{common_steps}
use Rattle.std.proofs.lemmas.List.{length-map}
use Rattle.tenant_core.specs.Journals.{Recorded}
use Rattle.tenant_core.specs.Views.{decide_of}
use Rattle.tenant_core.specs.declared.journal.Entry.TheVariants as entries
use Rattle.tenant_core.specs.declared.journal.Outcome.TheVariants as outcomes
use Rattle.tenant_core.proofs.Texts.{bytes_last, wholes_push}
use Rattle.tenant_core.proofs.arena.Journal.push_decide.Goals as goal

pub returns : goal.returns
returns c =
    let few : length c.self.inside.records.items < c.self.inside.places = simp length-map at (subst (λ (j : Recorded). length j.records < j.places) (sym c.self.view_is) c.requires.room) in
    let ok : IsOk c.extend_from_slice.result = c.extend_from_slice.ensures.succeeds (search rules) in
    let grown : c.extend_from_slice.new.self.items ≡ c.self.inside.text.items ++ c.args.decide.destination.now = grind (arith, common_steps, ok) in
    let begins : c.len-from.result ≡ length c.self.inside.text.items = search rules in
    rw (c.push_reserved.ensures.items, grown, ← c.self.view_is)
    (ap (λ rs. record { records = rs; places = c.self.inside.places })
    (wholes_push c.self.inside.text.items c.args.decide.destination.now c.self.inside.records.items _ _ c.self.invariant.within
    (rw begins
    (ap (λ bytes. record { entry = entries.Decide (record (decide_of c.args.decide) { destination = bytes }); outcome = outcomes.Packet c.args.verdict })
    (bytes_last c.self.inside.text.items c.args.decide.destination.now)))))
