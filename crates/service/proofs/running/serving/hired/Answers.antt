use Rattle.std.proofs.Common.{◌≡◌, rules, All, sym, subst}
use Rattle.std.specs.Prelude.{IfSome}
use Rattle.std.proofs.lemmas.List.Elements.{All-pop, All-push}
use Rattle.meters.specs.Seats.{count_of}
use Rattle.service.specs.Answering.{IsUncounted, IsNewDesk}
use Rattle.service.proofs.running.serving.hired.Goals as goal

pub loop-share-preserved : goal.loop-share-preserved
loop-share-preserved g c =
    let popped = All-pop IsUncounted c.loop-share.shares.items c.pop.new.self.items c.pop.result c.pop.ensures.items
    c.loop-share.invariant.fresh in
    let share_fresh : IsUncounted c.in-Some.share = subst (λ popped. IfSome popped IsUncounted) c.in-Some.is popped.1 in
    let share_is : c.new-in-Some.result.desk.share ≡ c.in-Some.share = search rules in
    let seat_is : c.new-in-Some.result.desk.seat ≡ c.split.result = search rules in
    let is_new : IsNewDesk c.new-in-Some.result.desk = record {
      share = subst IsUncounted (sym share_is) share_fresh;
      seat = λ tenant kind. subst (λ seat. count_of tenant kind seat ≡ 0) (sym seat_is) (c.split.ensures.zero tenant kind);
    } in
    record {
      here = search rules;
      first = search rules;
      joins = search rules;
      counts = search rules;
      few = search rules;
      split = search rules;
      each = search rules;
      room = search rules;
      fresh = popped.0;
      new = subst (λ lanes. All (λ lane. IsNewDesk lane.desk) lanes) (sym c.push_reserved.ensures.items)
          (All-push (λ lane. IsNewDesk lane.desk) c.loop-share.lanes.items c.new-in-Some.result c.loop-share.invariant.new
          is_new);
      office = subst (λ lanes. All (λ lane. lane.office.now ≡ c.args.office.now) lanes) (sym c.push_reserved.ensures.items)
          (All-push (λ lane. lane.office.now ≡ c.args.office.now) c.loop-share.lanes.items c.new-in-Some.result
          c.loop-share.invariant.office c.new-in-Some.ensures.office);
      clock = subst (λ lanes. All (λ lane. lane.clock.now ≡ c.args.system.now.clock.now) lanes) (sym c.push_reserved.ensures.items)
          (All-push (λ lane. lane.clock.now ≡ c.args.system.now.clock.now) c.loop-share.lanes.items c.new-in-Some.result
          c.loop-share.invariant.clock c.new-in-Some.ensures.clock);
    }
