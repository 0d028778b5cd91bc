use Rattle.std.proofs.Common.{◌≡◌, ◌++◌, ◌+◌, length, map, take, drop, vec_len, rules, arith, All, sym, subst, ap, ◌∙◌}
use Rattle.std.specs.Prelude.{is_some, option_map}
use Rattle.std.specs.List.{sum_by}
use Rattle.std.specs.Option.{option_to_list}
use Rattle.std.proofs.Math.Seq.{take-append_seam}
use Rattle.std.proofs.lemmas.List.Elements.{All-map, All-pop}
use Rattle.meters.specs.Seats.{count_of}
use Rattle.service.specs.Answering.{HasWorked, IsNewDesk, IsUncounted}
use Rattle.service.proofs.Counting.{as_many, door_apart, if_both, if_map, operated_obeyed, operated_some, shares_told, some_map, sums_told}
use Rattle.service.proofs.Sums.{length_map}
use Rattle.service.proofs.running.serving.run_all.Goals as goal

pub hired-requires-clause-new : goal.hired-requires-clause-new
hired-requires-clause-new g c = (All-pop IsUncounted c.args.shares.items c.seated_at-seated.new.shares.items _ c.seated_at-seated.ensures.shares c.requires.new).0

pub operators_at-requires-clause-new : goal.operators_at-requires-clause-new
operators_at-requires-clause-new g c = (All-pop IsUncounted c.args.shares.items c.seated_at-seated.new.shares.items _ c.seated_at-seated.ensures.shares c.requires.new).1

pub work_all-requires-clause-new : goal.work_all-requires-clause-new
work_all-requires-clause-new g c κs within =
    subst (λ lanes. All (λ lane. IsNewDesk lane.desk) lanes) (sym c.as_mut_slice.ensures.value) c.in_ok-lanes.ensures.new

pub work_all-requires-clause-seated : goal.work_all-requires-clause-seated
work_all-requires-clause-seated g c κs within = if_both _ _ c.in_ok-operators.operators c.in_ok-operators.ensures.office c.in_ok-operators.ensures.clock

pub dismissed-requires-clause-same : goal.dismissed-requires-clause-same
dismissed-requires-clause-same g c =
    let rest = drop (length c.work_all.new.lanes) c.in_ok-lanes.lanes.items in
    let whole : take c.in_ok-lanes.lanes.len (c.work_all.new.lanes ++ rest) ≡ c.work_all.new.lanes
    = search (rules, take-append_seam) in
    subst (λ lanes. All (λ lane. lane.office.now ≡ c.args.office.now) lanes) (sym whole) c.work_all.ensures.office

pub returns-clause-each : goal.returns-clause-each
returns-clause-each g c =
    let lanes = c.work_all.new.lanes in
    let operators = c.work_all.new.operators in
    let rest = drop (length lanes) c.in_ok-lanes.lanes.items in
    let whole : take c.in_ok-lanes.lanes.len (lanes ++ rest) ≡ lanes
    = search (rules, take-append_seam) in
    let left : length lanes ≡ vec_len c.seated_at-seated.new.shares = search rules in
    let seated : is_some operators ≡ is_some c.seated_at-seated.result
    = sym (some_map (λ porter. porter.answering.desk) operators) ∙ operated_some _ _ _ _ c.in_ok-work_all.ensures.operated
    ∙ some_map (λ porter. porter.answering.desk) c.in_ok-operators.operators ∙ c.in_ok-operators.ensures.there in
    let many : length (option_to_list operators) ≡ length (option_to_list c.seated_at-seated.result) = as_many operators c.seated_at-seated.result seated in
    let each : vec_len c.dismissed.result.shares ≡ vec_len c.relieved-others.result.shares + length lanes
    = c.dismissed.ensures.each ∙ ap (λ ls. vec_len c.relieved-others.result.shares + length ls) whole in
    omega (arith, each, c.relieved-others.ensures.each, many, left, c.seated_at-seated.ensures.many)

pub returns-clause-counted : goal.returns-clause-counted
returns-clause-counted g c =
    let lanes = c.work_all.new.lanes in
    let operators = c.work_all.new.operators in
    let rest = drop (length lanes) c.in_ok-lanes.lanes.items in
    let whole : take c.in_ok-lanes.lanes.len (lanes ++ rest) ≡ lanes
    = search (rules, take-append_seam) in
    let left : length lanes ≡ vec_len c.seated_at-seated.new.shares = search rules in
    let operated = c.in_ok-work_all.ensures.operated in
    let door : is_some c.seated_at-seated.result ≡ is_some c.args.doors.operators = c.seated_at-seated.ensures.door in
    record {
      desks = map (λ lane. lane.desk) lanes;
      each = length_map (λ lane. lane.desk) lanes ∙ left
          ∙ door_apart c.seated_at-seated.result (is_some c.args.doors.operators) (vec_len c.args.shares) (vec_len c.seated_at-seated.new.shares) door c.seated_at-seated.ensures.many;
      worked = All-map (HasWorked (g.C.Clock.gives c.args.system.now.clock.now) c.args.office.now) (λ lane. lane.desk) lanes c.in_ok-work_all.ensures.worked;
      door = option_map (λ porter. porter.answering.desk) operators;
      seated = operated_some _ _ _ _ operated ∙ some_map (λ porter. porter.answering.desk) c.in_ok-operators.operators
          ∙ c.in_ok-operators.ensures.there ∙ door;
      obeyed = operated_obeyed _ _ _ _ operated (if_map (λ porter. porter.answering.desk) IsNewDesk c.in_ok-operators.operators c.in_ok-operators.ensures.new);
      shares_are = shares_told (λ porter. porter.answering.desk) (λ lane. lane.desk) operators lanes (λ desk. desk.share) c.relieved-others.result.shares.items c.dismissed.result.shares.items
          c.relieved-others.ensures.shares
          (c.dismissed.ensures.shares ∙ ap (λ lanes. c.relieved-others.result.shares.items ++ map (λ lane. lane.desk.share) lanes) whole);
      sums = λ tenant kind below.
          let before : count_of tenant kind c.leaves.new.first ≡ 0 = search (rules, c.requires.nothing tenant kind, c.leaves.ensures.counts tenant kind) in
          let all = c.dismissed.ensures.counts tenant kind
          ∙ ap (λ lanes. count_of tenant kind c.relieved-others.new.first + sum_by (λ lane. count_of tenant kind lane.desk.seat) lanes) whole in
          sums_told (λ porter. porter.answering.desk) (λ lane. lane.desk) operators lanes (λ desk. count_of tenant kind desk.seat)
          (count_of tenant kind c.leaves.new.first) (count_of tenant kind c.relieved-others.new.first) (count_of tenant kind c.dismissed.new.first)
          before (c.relieved-others.ensures.counts tenant kind) all;
    }
