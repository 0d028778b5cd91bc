use Rattle.std.proofs.Common.{◌≡◌, ◌+◌, ◌++◌, [], ◌∷◌, append_assoc, length-append, map, rules, arith, ap, ◌∙◌, sym}
use Rattle.std.proofs.lemmas.List.{map-append}
use Rattle.std.proofs.lemmas.List.Sums.{sum_by_push}
use Rattle.meters.specs.Seats.{count_of}
use Rattle.service.proofs.running.serving.dismissed.Goals as goal

pub loop-lane-preserved : goal.loop-lane-preserved
loop-lane-preserved g c =
    let i = c.loop-lane.invariant in
    let more = length-append c.loop-lane.yielded (c.in-Some.lane ∷ []) in
    record {
      here = search rules;
      first = search rules;
      splits = search rules;
      joined = let one : c.join.new.seat.joins ≡ c.loop-lane.first.joins + 1 = search rules in omega (arith, i.joined, one, more);
      many = omega (arith, i.many, c.push_reserved.ensures.len, more);
      room = search rules;
      shares = c.push_reserved.ensures.items
          ∙ (ap (λ desk. c.loop-lane.shares.items ++ desk.share ∷ []) c.into_desk-desk.ensures
          ∙ (ap (λ shares. shares ++ c.in-Some.lane.desk.share ∷ []) i.shares
          ∙ (append_assoc c.args.others.shares.items (map (λ lane. lane.desk.share) c.loop-lane.yielded) (c.in-Some.lane.desk.share ∷ [])
          ∙ ap (λ shares. c.args.others.shares.items ++ shares) (sym (map-append (λ lane. lane.desk.share) c.loop-lane.yielded (c.in-Some.lane ∷ []))))));
      counts = λ tenant kind.
          let before = i.counts tenant kind in
          let all = sum_by_push (λ lane. count_of tenant kind lane.desk.seat) c.loop-lane.yielded c.in-Some.lane in
          let joined : count_of tenant kind c.join.new.seat
          ≡ count_of tenant kind c.loop-lane.first + count_of tenant kind c.in-Some.lane.desk.seat
          = search (rules, c.join.ensures.each tenant kind) in
          omega (arith, before, all, joined);
    }
