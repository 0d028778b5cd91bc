use Rattle.std.proofs.Common.{ℕ, ◌≡◌, ◌++◌, [], List, length, rules, ap, subst, ◌∙◌, if◌then◌else◌, true, vec_len}
use Rattle.std.specs.Prelude.{is_some}
use Rattle.std.proofs.lemmas.Result.{on_ok_weaker}
use Rattle.std.specs.Io.KnownBytes.{Appends}
use Rattle.service.specs.Auditing.{HaveEnded}
use Rattle.service.specs.Counted.{without_door}
use Rattle.service.specs.Extents.{closes_at_end, desk_count}
use Rattle.service.specs.Journal.{in_office}
use Rattle.service.specs.declared.running.ending.AuditEnd.TheVariants.{Good}
use Rattle.service.specs.Served.{lines_upto}
use Rattle.service.specs.Balances.{balance_lines}
use Rattle.service.proofs.Counting.{door_counted}
use Rattle.service.proofs.Sums.{length_map}
use Rattle.service.proofs.running.serving.serve_run.Goals as goal

pub returns-in-Ok : goal.returns-in-Ok
returns-in-Ok g c =
    let office = c.in_ok-office.field-0.office in
    let known = c.in_ok-office.ensures.known in
    let operated = is_some c.args.doors.operators in
    let many : vec_len c.in_ok-office.field-0.shares ≡ desk_count c.args.plan.extent.connections operated = search rules in
    let counted = c.in_ok-done.ensures.counted in
    let exact = c.close-totals.ensures.exact (search rules) (search rules) in
    let names : length office.names.items ≡ length c.args.start.setup.now.tenants
    = ap length known.names ∙ length_map _ c.args.start.setup.now.tenants in
    let front : List ℕ = if c.args.plan.report.balances then balance_lines office.names.items c.in-Ok.gathered.items else [] in
    let finish = c.finish-missing in
    let found : List ℕ = finish.result.audit.line.items in
    let last : List ℕ = c.in_ok-last.last.text.items in
    let text_is : c.in_ok-text-in-Ok.text.items ≡ front = search rules in
    let Told : List ℕ → ℕ → Type 0 = λ text n. Appends (g.W.Write.contents c.args.writer.now) (g.W.Write.contents c.tell.new.writer)
    (text ++ lines_upto n office.names.items c.close-totals.result ++ last) in
    let told : Told c.in_ok-text-in-Ok.text.items (length office.names.items) = search rules in
    on_ok_weaker c.end_of.result (λ (good : (finish.result.audit.end ≡ Good) × (c.all_kept.result ≡ true)).
    let only : last ≡ found = c.in_ok-last.ensures.kept (c.all_kept.ensures good.1) ∙ c.as_slice.ensures.value in
    record {
      office = office;
      known = known;
      admin = c.in_ok-office.ensures.admin;
      journal = c.in_ok-office.ensures.journal;
      totals = c.close-totals.result;
      worked = c.in_ok-done.done.shares.items;
      counted = record {
        desks = counted.desks;
        each = counted.each ∙ ap (without_door operated) many ∙ door_counted c.args.plan.extent.connections operated;
        worked = counted.worked;
        door = counted.door;
        seated = counted.seated;
        obeyed = counted.obeyed;
        shares_are = counted.shares_are;
        sums = λ tenant kind below. exact tenant kind (search rules) ∙ counted.sums tenant kind below;
      };
      shares = finish.new.shares.items;
      ended = subst (λ (n : ℕ). HaveEnded (in_office (g.C.Clock.gives c.args.system.clock.now) office) (closes_at_end c.args.plan) n c.in_ok-done.done.shares.items finish.new.shares.items)
          known.books (finish.ensures.ended good.0);
      books = c.in-Ok.gathered.items;
      audit = found;
      audited = finish.ensures.audited good.0;
      told = subst (λ (l : List ℕ). Appends (g.W.Write.contents c.args.writer.now) (g.W.Write.contents c.tell.new.writer)
          (front ++ lines_upto (length c.args.start.setup.now.tenants) office.names.items c.close-totals.result ++ l)) only
          (subst (λ n. Told front n) names (subst (λ text. Told text (length office.names.items)) text_is told));
      one_list = c.in-Ok.ensures.one_list;
    }) c.end_of.ensures.good
