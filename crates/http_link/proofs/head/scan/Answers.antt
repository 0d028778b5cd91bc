use Rattle.std.proofs.Common.{◌≡◌, ◌+◌, ◌-◌, List, ℕ, length, drop, take, ap, sym, subst, ◌∙◌, arith, length-take, take-take, take_all, refl}
use Rattle.std.specs.List.{list_all}
use Rattle.httparse.specs.declared.spans.HeaderSpan.{HeaderSpan}
use Rattle.http_link.specs.Grammars.{is_line_end}
use Rattle.http_link.specs.Reading.{BeginsNone, IsHeadBegun}
use Rattle.http_link.proofs.Heads.{blank_goes_on, ends_there, goes_on_line, lines_join}
use Rattle.http_link.proofs.head.scan.Goals as goal

pub examine-requires-clause-inside : goal.examine-requires-clause-inside
examine-requires-clause-inside g c =
    let text : List ℕ = c.args.text.now in
    let seen = c.loop-seen.seen in
    let n = c.line_len.result in
    let some = c.line_len.ensures.some in
    let within = c.line_len.ensures.within in
    let on = goes_on_line g.H.HeadSpans.grammar g.met.H.HeadSpans.laws text seen n (length c.loop-seen.lines) some within c.loop-seen.invariant.bound c.line_len.ensures.none c.loop-seen.invariant.goes_on in
    let last : length (take (seen + n) text) - 1 ≡ seen + (n - 1) = omega (arith, length-take (length text - seen) (drop seen text), length-take (seen + n) text) in
    let short : take (length (take (seen + n) text) - 1) (take (seen + n) text) ≡ take (seen + (n - 1)) text =
    ap (λ (k : ℕ). take k (take (seen + n) text)) last ∙ take-take (seen + (n - 1)) (seen + n) text (omega arith) in
    subst (λ (t : List ℕ). IsHeadBegun g.H.HeadSpans.grammar t (length c.loop-seen.lines)) (sym short) on

pub returns-in-Whole : goal.returns-in-Whole
returns-in-Whole g c =
    let text : List ℕ = c.args.text.now in
    let seen = c.loop-seen.seen in
    let n = c.line_len.result in
    let lines : List HeaderSpan = c.examine.new.lines in
    let some = c.line_len.ensures.some in
    let within = c.line_len.ensures.within in
    let on = goes_on_line g.H.HeadSpans.grammar g.met.H.HeadSpans.laws text seen n (length c.loop-seen.lines) some within c.loop-seen.invariant.bound c.line_len.ensures.none c.loop-seen.invariant.goes_on in
    let whole : seen + n ≡ seen + (n - 1) + 1 = omega arith in
    let covers = subst (λ (k : ℕ). g.H.HeadSpans.grammar.Covers (take k text) lines c.in-Whole.spans) whole c.in-Whole.ensures.decides in
    let there = ends_there g.H.HeadSpans.grammar g.met.H.HeadSpans.laws text (seen + (n - 1)) (length c.loop-seen.lines) lines c.in-Whole.spans (omega (arith, length-take (length text - seen) (drop seen text))) (omega arith) on covers in
    record {
      lines = omega arith;
      seen = omega (arith, length-take (length text - seen) (drop seen text));
      blank = let within = c.loop-seen.invariant.blank in omega arith;
      empty = c.loop-seen.invariant.empty;
      further = let so_far = c.loop-seen.invariant.further in omega arith;
      sees = (c.in-Whole.ensures.decides, there ∙ sym whole);
    }

pub returns-then-is_malformed-clause-sees : goal.returns-then-is_malformed-clause-sees
returns-then-is_malformed-clause-sees g c =
    let text : List ℕ = c.args.text.now in
    let same : length c.loop-seen.lines ≡ length c.args.lines.now = omega arith in
    let all : take c.loop-seen.seen text ≡ text = take_all c.loop-seen.seen text c.loop-seen-test.false in
    let none = subst (λ (room : ℕ). BeginsNone g.H.HeadSpans.grammar text room) same (c.if-is_malformed.ensures.none refl) in
    subst (λ (t : List ℕ). BeginsNone g.H.HeadSpans.grammar t (length c.args.lines.now)) (sym all) none

pub returns-else-is_malformed-clause-sees : goal.returns-else-is_malformed-clause-sees
returns-else-is_malformed-clause-sees g c =
    let same : length c.loop-seen.lines ≡ length c.args.lines.now = omega arith in (
      subst (λ (room : ℕ). IsHeadBegun g.H.HeadSpans.grammar (take c.loop-seen.seen c.args.text.now) room) same c.loop-seen.invariant.goes_on,
      omega arith,
    )

pub loop-seen-preserved-then-is_empty_line : goal.loop-seen-preserved-then-is_empty_line
loop-seen-preserved-then-is_empty_line g c =
    let text : List ℕ = c.args.text.now in
    let seen = c.loop-seen.seen in
    let n = c.line_len.result in
    let whole : n ≡ seen + n - seen = omega arith in
    let front = ap (λ k. list_all is_line_end (take k text)) (sym c.if-blank-begin.true) ∙ c.loop-seen.invariant.empty in
    let line = ap (λ k. list_all is_line_end (take k (drop seen text))) whole ∙ c.is_empty_line.ensures c.if-is_empty_line.true in
    let empty = lines_join text seen n front line in
    record {
      further = let so_far = c.loop-seen.invariant.further in omega arith;
      bound = omega (arith, length-take (length text - seen) (drop seen text));
      lines = c.loop-seen.invariant.lines;
      blank = omega arith;
      empty = empty;
      goes_on = blank_goes_on g.H.HeadSpans.grammar g.met.H.HeadSpans.laws (take (seen + n) text) (length c.loop-seen.lines) empty;
    }
