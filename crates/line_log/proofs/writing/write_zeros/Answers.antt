use Rattle.std.proofs.Common.{◌≡◌, ◌+◌, ◌≤◌, ℕ, List, length, take, sym, ◌∙◌, ap, arith, length-take-le}
use Rattle.line_log.specs.File.{IsMix, overwritten}
use Rattle.line_log.specs.Blank.{blanked}
use Rattle.line_log.proofs.Moments.{started, goes_on}
use Rattle.line_log.proofs.Pieces.{so_far, not_yet, piece, piece_crash, zeros_are, mix_at_first, within_blanked}
use Rattle.line_log.proofs.writing.write_zeros.Goals as goal

pub loop-at-init : goal.loop-at-init
loop-at-init g c =
    let file = g.D.LogFile.seen c.args.file.now in
    let within : c.args.from ≤ length file = omega (arith, c.requires.from, c.requires.size) in
    record {
      from = omega arith;
      size = c.requires.from;
      sound = c.requires.sound;
      written = not_yet c.args.from file within;
      crash = λ f left. mix_at_first c.args.from file f within (c.requires.on_disk f left);
      moments = started g.D.LogFile.moment g.D.LogFile.left_since c.args.file.now (IsMix file (blanked c.args.from file))
          (λ f left. mix_at_first c.args.from file f within (c.requires.on_disk f (g.met.D.LogFile.only_now c.args.file.now f left)));
    }

pub returns-in_err-write_at-clause-crash : goal.returns-in_err-write_at-clause-crash
returns-in_err-write_at-clause-crash g c =
    let file = g.D.LogFile.seen c.args.file.now in
    let zeros = c.args.zeros.now in
    let n = c.min-count.result in
    let within : c.args.from ≤ length file = omega (arith, c.requires.from, c.requires.size) in
    let few : n ≤ length zeros = omega (arith, c.min-count.ensures) in
    let count : length (take n zeros) ≡ n = length-take-le n zeros few in
    let fits : c.loop-at.at + length (take n zeros) ≤ length file = omega (arith, count, c.min-count.ensures, c.requires.size, c.loop-at-test.true) in
    let is : take n zeros ≡ take (length (take n zeros)) zeros = ap (λ (k : ℕ). take k zeros) (sym count) in
    let part = zeros_are c.args.from c.loop-at.at file zeros (take n zeros) c.loop-at.invariant.from within fits c.requires.zeros is (omega (arith, count, few)) in
    piece_crash file (blanked c.args.from file) (take n zeros) c.loop-at.at _ _ fits part c.loop-at.invariant.crash c.write_at.ensures.crash

pub returns-in_err-write_at-clause-any_moment : goal.returns-in_err-write_at-clause-any_moment
returns-in_err-write_at-clause-any_moment g c =
    let file = g.D.LogFile.seen c.args.file.now in
    let zeros = c.args.zeros.now in
    let n = c.min-count.result in
    let within : c.args.from ≤ length file = omega (arith, c.requires.from, c.requires.size) in
    let few : n ≤ length zeros = omega (arith, c.min-count.ensures) in
    let count : length (take n zeros) ≡ n = length-take-le n zeros few in
    let fits : c.loop-at.at + length (take n zeros) ≤ length file = omega (arith, count, c.min-count.ensures, c.requires.size, c.loop-at-test.true) in
    let is : take n zeros ≡ take (length (take n zeros)) zeros = ap (λ (k : ℕ). take k zeros) (sym count) in
    let part = zeros_are c.args.from c.loop-at.at file zeros (take n zeros) c.loop-at.invariant.from within fits c.requires.zeros is (omega (arith, count, few)) in
    goes_on g.D.LogFile.moment g.D.LogFile.left_since c.args.file.now c.loop-at.file c.write_at.new.self (IsMix file (blanked c.args.from file)) _ c.loop-at.invariant.moments c.write_at.ensures.time
    (piece_crash file (blanked c.args.from file) (take n zeros) c.loop-at.at _ _ fits part c.loop-at.invariant.crash c.write_at.ensures.crash)

pub loop-at-preserved : goal.loop-at-preserved
loop-at-preserved g c =
    let file = g.D.LogFile.seen c.args.file.now in
    let zeros = c.args.zeros.now in
    let n = c.min-count.result in
    let within : c.args.from ≤ length file = omega (arith, c.requires.from, c.requires.size) in
    let few : n ≤ length zeros = omega (arith, c.min-count.ensures) in
    let count : length (take n zeros) ≡ n = length-take-le n zeros few in
    let fits : c.loop-at.at + length (take n zeros) ≤ length file = omega (arith, count, c.min-count.ensures, c.requires.size, c.loop-at-test.true) in
    let is : take n zeros ≡ take (length (take n zeros)) zeros = ap (λ (k : ℕ). take k zeros) (sym count) in
    let part = zeros_are c.args.from c.loop-at.at file zeros (take n zeros) c.loop-at.invariant.from within fits c.requires.zeros is (omega (arith, count, few)) in
    let crash = piece_crash file (blanked c.args.from file) (take n zeros) c.loop-at.at _ _ fits part c.loop-at.invariant.crash c.write_at.ensures.crash in
    record {
      from = omega (arith, c.loop-at.invariant.from);
      size = omega (arith, fits, count, c.requires.size);
      sound = c.in_ok-write_at.ensures.sound;
      written = c.in_ok-write_at.ensures.written
          ∙ ap (λ (f : List ℕ). overwritten f c.loop-at.at (take n zeros)) c.loop-at.invariant.written
          ∙ piece file (blanked c.args.from file) (take n zeros) c.loop-at.at (within_blanked c.args.from c.loop-at.at file within (omega (arith, fits))) part
          ∙ ap (λ (k : ℕ). so_far file (blanked c.args.from file) (c.loop-at.at + k)) count;
      crash = crash;
      moments = goes_on g.D.LogFile.moment g.D.LogFile.left_since c.args.file.now c.loop-at.file c.write_at.new.self (IsMix file (blanked c.args.from file)) _ c.loop-at.invariant.moments c.write_at.ensures.time crash;
    }
